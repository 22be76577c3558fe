-- Three writers, one after the other.
use native.Mathlib.Omega.{arith}
use Rattle.lists.proofs.Bytes.{bytes_length}
use Rattle.wire.proofs.Writing.{then}
use Rattle.paper.specs.Reports.{token_bytes}
use Rattle.report.proofs.paged.put_token.Goals as goal

pub put_lun-requires : goal.put_lun-requires
unfolding token_bytes
put_lun-requires c = omega (arith, simp bytes_length at c.put_be64-b.ensures.ended, c.put_zeros-a.ensures.ended)

pub returns : goal.returns
unfolding token_bytes
returns c =
    then c.put_zeros-a.ensures
    (then c.put_be64-b.ensures (rw c.default_lun.ensures at c.put_lun.ensures))
