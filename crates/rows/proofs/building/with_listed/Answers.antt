use Rattle.std.proofs.Common.{arith, add-one, drop-cons}
use Rattle.std.proofs.lemmas.List.{drop_all}
use Rattle.paper.specs.Tables.{no_luacd}
use Rattle.rows.proofs.Appending.{append_row, append_end}
use Rattle.rows.proofs.building.with_listed.Goals as goal

pub loop-p-preserved : goal.loop-p-preserved
loop-p-preserved c = append_row c.loop-p.invariant c.push.ensures (rw (drop-cons _ _ no_luacd c.loop-p-test.true, c.row_at.ensures, add-one))

pub returns : goal.returns
returns c = append_end c.loop-p.invariant (rw (drop_all _ _ c.loop-p-test.false)) (omega (arith, c.loop-p.auto.p-index-end, c.requires.1))
