-- The one table that changes is the initiators', with the enrolments after the change.
use mathlib.Core.Path.{ap, ◌∙◌}
use Rattle.paper.specs.Tables.{with_initiators}
use Rattle.tables.proofs.effects.enrolled_change.Goals as goal

pub returns : goal.returns
returns c = c.with_initiators.ensures ∙ ap (with_initiators c.args.c) c.enrolments_after.ensures
