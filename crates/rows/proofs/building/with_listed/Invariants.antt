-- The rows of the LUACDs that are left are those that are yet to be appended.
use Rattle.std.proofs.Common.{drop}
use Rattle.paper.specs.Rows.{rows_at}
use Rattle.rows.proofs.Appending.{Appending}
use Rattle.rows.proofs.building.with_listed.Given as goal

abbrev pub invariant-loop-p : goal.invariant-loop-p
invariant-loop-p l = Appending l.initial.rows (rows_at l.i l.g l.luacds) (rows_at l.i l.g (drop l.p-index l.luacds)) l.rows l.p-index
