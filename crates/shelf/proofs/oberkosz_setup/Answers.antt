-- What the setup starts goes out.
use mathlib.Core.Path.{ap, ◌∙◌}
use Rattle.shelf.specs.Crossing.{started_out}
use Rattle.shelf.proofs.oberkosz_setup.Goals as goal

pub returns : goal.returns
returns c = c.started_out.ensures ∙ ap started_out c.setup.ensures
