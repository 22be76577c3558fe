-- Five writers, one after the other; each has room, since a number has at most 20 digits and a byte two.
use lib.ListN.{take, length-take}
use Rattle.journal.proofs.Told.{decimal_most, bytes_most}
use Rattle.wire.proofs.Writing.{then}
use native.Mathlib.Omega.{arith}
use Rattle.journal.proofs.lending.put_delivered.Goals as goal

pub put-space-requires : goal.put-space-requires
put-space-requires c = omega (arith, c.put_bytes-good.ensures.ended, c.put_decimal-count.ensures.ended, decimal_most c.args.n)

pub put_bytes-bytes-requires : goal.put_bytes-bytes-requires
put_bytes-bytes-requires c = omega (arith, length-take c.args.n c.args.reply.now, c.requires.1, c.put_bytes-good.ensures.ended, c.put_decimal-count.ensures.ended, c.put-space.ensures.ended, decimal_most c.args.n)

pub put_others-requires : goal.put_others-requires
put_others-requires c = (c.requires.0, omega (arith, length-take c.args.n c.args.reply.now, c.requires.1, c.put_bytes-good.ensures.ended, c.put_decimal-count.ensures.ended, c.put-space.ensures.ended, c.put_bytes-bytes.ensures.ended, decimal_most c.args.n, bytes_most (take c.args.n c.args.reply.now)))

pub returns : goal.returns
returns c = then c.put_bytes-good.ensures (then c.put_decimal-count.ensures (then c.put-space.ensures (then c.put_bytes-bytes.ensures c.put_others.ensures)))
