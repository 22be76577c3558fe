-- Two writers, one after the other.
use native.Mathlib.Omega.{arith}
use Rattle.lists.proofs.Bytes.{bytes_length}
use Rattle.wire.proofs.Writing.{then}
use Rattle.report.proofs.reporting.put_header.Goals as goal

pub put_be32-requires : goal.put_be32-requires
put_be32-requires c = omega (arith, simp bytes_length at c.put_be32-a.ensures.ended)

pub returns : goal.returns
returns c = then c.put_be32-a.ensures c.put_be32.ensures
