use native.Mathlib.Omega.{arith}
use Rattle.audit.specs.Ledger.{deed_bytes, stands_after}
use Rattle.audit.proofs.Writers.{laying_room, laying_next, laying_end, ends_within}
use Rattle.audit.proofs.Grounds.{deed_size, stand_most}
use Rattle.audit.proofs.Runs.{chunk_next, chunks_end, few_runs}
use Rattle.audit.proofs.ledger.put_stands.Goals as goal

pub put_stand-at-requires : goal.put_stand-at-requires
unfolding stands_after
put_stand-at-requires c =
    let v = c.loop-row.invariant in
    let next = chunk_next 4 c.loop-row.row-iterator c.next.new.self (omega arith) v.0 c.in-Some.row c.in-Some.ensures.steps in
    (next.1, omega (arith, laying_room v.1 next.2, few_runs 4 c.args.rows.now))

pub loop-row-preserved : goal.loop-row-preserved
unfolding stands_after
loop-row-preserved c =
    let v = c.loop-row.invariant in
    let a = c.args in
    let next = chunk_next 4 c.loop-row.row-iterator c.next.new.self (omega arith) v.0 c.in-Some.row c.in-Some.ensures.steps in
    let few = stand_most a.unit a.standing.now (deed_bytes a.deed) c.in-Some.row.now (deed_size a.deed) next.1 in
    (next.0, laying_next v.1 next.2 (ends_within few c.put_stand-at.ensures) c.put_stand-at.ensures)

pub returns : goal.returns
unfolding stands_after
returns c =
    let v = c.loop-row.invariant in
    laying_end v.1 (chunks_end 4 c.loop-row.row-iterator c.next.new.self (omega arith) v.0 c.in-None.ensures.steps)
