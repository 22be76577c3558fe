-- Twenty digits hold every number below 2^64.
use native.Mathlib.Omega.{arith}
use Rattle.journal.proofs.Told.{decimal_most}
use Rattle.acl.proofs.naming.put_decimal.Goals as goal

pub returns : goal.returns
returns c =
    record { wrote = c.put_decimal.ensures; fits = omega (arith, c.put_decimal.ensures.ended, decimal_most c.args.n) }
