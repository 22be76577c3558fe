use Rattle.rows.proofs.Appending.{join_none}
use Rattle.rows.proofs.building.with_held.Goals as goal

pub returns-in_default : goal.returns-in_default
returns-in_default c = rw c.in_default.is (join_none _ _)
