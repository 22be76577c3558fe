-- Each type has its name.
use native.Mathlib.Omega.{arith}
use Rattle.acl.proofs.granted.put_kind.Goals as goal

pub returns-in-AccessId : goal.returns-in-AccessId
returns-in-AccessId c =
    record { wrote = rw c.in-AccessId.is c.put_bytes.ensures; fits = omega (arith, c.put_bytes.ensures.ended) }

pub returns-in-TransportId : goal.returns-in-TransportId
returns-in-TransportId c =
    record { wrote = rw c.in-TransportId.is c.put_bytes-in-TransportId.ensures; fits = omega (arith, c.put_bytes-in-TransportId.ensures.ended) }
