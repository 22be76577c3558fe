use Rattle.std.proofs.Common.{arith, add-one, drop-cons}
use Rattle.std.proofs.lemmas.List.{drop_all}
use Rattle.paper.specs.Contents.{numbered}
use Rattle.rows.proofs.Appending.{append_row, append_end}
use Rattle.rows.proofs.building.with_units.Goals as goal

pub loop-unit-preserved : goal.loop-unit-preserved
unfolding numbered
loop-unit-preserved c = append_row c.loop-unit.invariant c.push.ensures (rw (drop-cons _ _ 0 c.loop-unit-test.true, c.row_at.ensures, add-one))

pub returns : goal.returns
unfolding numbered
returns c = append_end c.loop-unit.invariant (rw (drop_all _ _ c.loop-unit-test.false)) (omega (arith, c.loop-unit.auto.unit-end, c.requires.1))
