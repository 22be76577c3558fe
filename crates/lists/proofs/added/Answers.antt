use Rattle.lists.proofs.Passing.{filled_more}
use Rattle.lists.proofs.added.Goals as goal

pub returns : goal.returns
returns g c = rw c.copied-table.ensures (filled_more _ _ _ _ c.requires)
