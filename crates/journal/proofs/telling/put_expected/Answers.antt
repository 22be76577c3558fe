-- Four writers, one after the other.
use mathlib.Core.Path.{ap}
use lib.ListN.{length}
use Rattle.journal.proofs.Told.{decimal_most, kind_most}
use Rattle.wire.proofs.Writing.{then}
use native.Mathlib.Omega.{arith}
use Rattle.journal.proofs.telling.put_expected.Goals as goal

pub put_bytes-colon-requires : goal.put_bytes-colon-requires
put_bytes-colon-requires c = omega (arith, c.put_bytes-word.ensures.ended, c.put_decimal-number.ensures.ended, decimal_most c.args.which)

pub put_bytes-requires : goal.put_bytes-requires
put_bytes-requires c = omega (arith, c.put_bytes-word.ensures.ended, c.put_decimal-number.ensures.ended, c.put_bytes-colon.ensures.ended, decimal_most c.args.which, ap length c.message.ensures, kind_most c.args.kind)

pub returns : goal.returns
returns c = then c.put_bytes-word.ensures (then c.put_decimal-number.ensures (then c.put_bytes-colon.ensures (rw c.message.ensures at c.put_bytes.ensures)))
