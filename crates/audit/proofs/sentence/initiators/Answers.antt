-- They are counted.
use mathlib.Core.Path.{refl}
use Rattle.lists.specs.Lists.{count}
use Rattle.audit.proofs.sentence.initiators.Goals as goal

pub returns : goal.returns
unfolding count
returns c = refl
