use Rattle.std.proofs.Common.{arith}
use Rattle.lists.proofs.Places.{between_nil, below_between}
use Rattle.wire.proofs.Writing.{left_start, left_step, left_end}
use Rattle.acl.proofs.Named.{lines_next, initiator_at}
use Rattle.acl.proofs.initiators.put_lines.Goals as goal

pub loop-i-init : goal.loop-i-init
loop-i-init c = record { near = omega arith; left = left_start _ _ _ _ }

pub put_line-to-requires : goal.put_line-to-requires
put_line-to-requires c = omega (arith, c.requires.0, c.requires.1, c.loop-i.invariant.near, c.loop-i-test.true)

pub loop-i-preserved : goal.loop-i-preserved
loop-i-preserved c =
    let t = c.args.t.now in
    let line = initiator_at t.count t.ids t.enrolments c.loop-i.i c.loop-i-test.true in
    record {
      near = omega (arith, c.loop-i.invariant.near, c.put_line-to.ensures.fits);
      left = left_step (lines_next _ _ _ c.loop-i-test.true) c.loop-i.invariant.left
          (rw (c.transport_part-id.ensures, c.from_bytes-e.ensures, c.enrolment_part.ensures, ← line) at c.put_line-to.ensures.wrote);
    }

pub returns : goal.returns
returns c = record {
  wrote = rw below_between (left_end (rw (between_nil _ _ c.loop-i-test.false)) c.loop-i.invariant.left);
  fits = omega (arith, c.requires.0, c.loop-i.invariant.near, c.loop-i.auto.i-end);
}
