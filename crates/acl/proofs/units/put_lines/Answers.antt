use Rattle.std.proofs.Common.{arith}
use Rattle.lists.proofs.Places.{between_nil, below_between}
use Rattle.wire.proofs.Writing.{left_start, left_step, left_end}
use Rattle.acl.proofs.Named.{lines_next}
use Rattle.acl.proofs.units.put_lines.Goals as goal

pub loop-unit-init : goal.loop-unit-init
loop-unit-init c = record { near = omega arith; left = left_start _ _ _ _ }

pub put_line-to-requires : goal.put_line-to-requires
put_line-to-requires c = omega (arith, c.requires.0, c.requires.1, c.loop-unit.invariant.near, c.loop-unit-test.true)

pub loop-unit-preserved : goal.loop-unit-preserved
loop-unit-preserved c = record {
  near = omega (arith, c.loop-unit.invariant.near, c.put_line-to.ensures.fits);
  left = left_step (lines_next _ _ _ c.loop-unit-test.true) c.loop-unit.invariant.left c.put_line-to.ensures.wrote;
}

pub returns : goal.returns
returns c = record {
  wrote = rw below_between (left_end (rw (between_nil _ _ c.loop-unit-test.false)) c.loop-unit.invariant.left);
  fits = omega (arith, c.requires.0, c.loop-unit.invariant.near, c.loop-unit.auto.unit-end);
}
