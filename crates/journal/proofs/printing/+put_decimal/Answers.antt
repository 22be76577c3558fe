-- One digit, or the last behind the others, which leave room for it.
use native.Mathlib.Omega.{arith}
use Rattle.wire.proofs.Writing.{then}
use Rattle.journal.proofs.Printed.{decimal_one, decimal_more, decimal_room}
use Rattle.journal.proofs.printing.+put_decimal.Goals as goal

pub returns-then-n-lt10 : goal.returns-then-n-lt10
returns-then-n-lt10 t c = rw (decimal_one c.args.n c.if-n-lt10.true) c.put.ensures

pub put-requires-2 : goal.put-requires-2
put-requires-2 t c =
    omega (arith, c.requires, c.put_decimal-next.ensures.ended, decimal_room c.args.n c.if-n-lt10.false (omega arith))

pub returns : goal.returns
returns t c = rw (decimal_more c.args.n c.if-n-lt10.false (omega arith)) (then c.put_decimal-next.ensures c.put-2.ensures)
