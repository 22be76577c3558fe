-- Zeros are no identifiers and no enrolments, padded.
use mathlib.Core.Path.{refl}
use Rattle.paper.proofs.state.no_initiators.Goals as goal

pub returns : goal.returns
returns c = refl
