-- The rows of the units that are left, numbered on, are those that are yet to be appended.
use Rattle.std.proofs.Common.{drop}
use Rattle.paper.specs.Contents.{numbered}
use Rattle.paper.specs.Rows.{rows_at}
use Rattle.rows.proofs.Appending.{Appending}
use Rattle.rows.proofs.building.with_units.Given as goal

abbrev pub invariant-loop-unit : goal.invariant-loop-unit
invariant-loop-unit l = Appending l.initial.rows (rows_at l.i l.g (numbered 0 l.luns)) (rows_at l.i l.g (numbered l.unit (drop l.unit l.luns))) l.rows l.unit
