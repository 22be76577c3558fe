-- What stood before is copied; else the row and what it begins with.
use native.Mathlib.Omega.{arith}
use Rattle.wire.proofs.Writing.{then}
use Rattle.audit.specs.Ledger.{deed_bytes}
use Rattle.audit.proofs.Writers.{wrote_as}
use Rattle.audit.proofs.Grounds.{held_is, held_long}
use Rattle.audit.proofs.ledger.put_held_over.Goals as goal

pub returns-in-Some : goal.returns-in-Some
returns-in-Some c =
    let a = c.args in
    wrote_as (held_is a.standing.now (deed_bytes a.deed) a.row.now c.in-Some.ensures) c.put_bytes.ensures

pub returns-in-None : goal.returns-in-None
returns-in-None c =
    let a = c.args in
    wrote_as (held_is a.standing.now (deed_bytes a.deed) a.row.now c.in-None.ensures) (then c.put_bytes-begun.ensures c.put_deed.ensures)

pub put_bytes-requires : goal.put_bytes-requires
put_bytes-requires c =
    let a = c.args in
    omega (arith, held_long a.standing.now a.row.now c.in-Some.ensures)
