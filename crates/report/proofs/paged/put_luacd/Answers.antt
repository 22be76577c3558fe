-- Three writers, one after the other.
use native.Mathlib.Omega.{arith}
use Rattle.lists.proofs.Bytes.{bytes_length}
use Rattle.wire.proofs.Writing.{then}
use Rattle.paper.specs.Reports.{luacd_bytes}
use Rattle.report.proofs.paged.put_luacd.Goals as goal

pub put_lun-requires : goal.put_lun-requires
unfolding luacd_bytes
put_lun-requires c = omega (arith, simp bytes_length at c.put_lun-b.ensures.ended, c.put_zeros-a.ensures.ended)

pub returns : goal.returns
unfolding luacd_bytes
returns c =
    then c.put_zeros-a.ensures
    (then c.put_lun-b.ensures (rw c.default_lun.ensures at c.put_lun.ensures))
