use native.Mathlib.Omega.{arith}
use Rattle.audit.specs.Ledger.{deed_bytes, runs_of, ends_after}
use Rattle.audit.proofs.Writers.{laying_room, laying_next, laying_end, ends_within}
use Rattle.audit.proofs.Grounds.{deed_size, end_most}
use Rattle.audit.proofs.Runs.{chunk_next, chunks_end, few_runs}
use Rattle.audit.proofs.ledger.put_ends.Goals as goal

pub put_end-at-requires : goal.put_end-at-requires
unfolding ends_after
put_end-at-requires c =
    let v = c.loop-e.invariant in
    let next = chunk_next 14 c.loop-e.e-iterator c.next.new.self (omega arith) v.0 c.in-Some.e c.in-Some.ensures.steps in
    (next.1, omega (arith, laying_room v.1 next.2, few_runs 14 c.args.standing.now))

pub loop-e-preserved : goal.loop-e-preserved
unfolding ends_after
loop-e-preserved c =
    let v = c.loop-e.invariant in
    let a = c.args in
    let next = chunk_next 14 c.loop-e.e-iterator c.next.new.self (omega arith) v.0 c.in-Some.e c.in-Some.ensures.steps in
    let few = end_most (runs_of 4 a.rows.now) (deed_bytes a.deed) a.to c.in-Some.e.now (deed_size a.deed) next.1 in
    (next.0, laying_next v.1 next.2 (ends_within few c.put_end-at.ensures) c.put_end-at.ensures)

pub returns : goal.returns
unfolding ends_after
returns c =
    let v = c.loop-e.invariant in
    laying_end v.1 (chunks_end 14 c.loop-e.e-iterator c.next.new.self (omega arith) v.0 c.in-None.ensures.steps)
