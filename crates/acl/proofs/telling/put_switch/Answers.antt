-- On, or off.
use native.Mathlib.Omega.{arith}
use Rattle.wire.proofs.Writing.{then}
use Rattle.acl.specs.State.{switch_text}
use Rattle.acl.proofs.telling.put_switch.Goals as goal

pub returns-then-on : goal.returns-then-on
unfolding switch_text
returns-then-on c =
    record { wrote = rw c.if-on.true (then c.put_bytes-a.ensures c.put.ensures); fits = omega (arith, c.put_bytes-a.ensures.ended, c.put.ensures.ended) }

pub returns : goal.returns
unfolding switch_text
returns c =
    record { wrote = rw c.if-on.false (then c.put_bytes-b.ensures c.put-2.ensures); fits = omega (arith, c.put_bytes-b.ensures.ended, c.put-2.ensures.ended) }
