use mathlib.Core.Path.{◌∙◌}
use Rattle.std.proofs.Common.{arith}
use Rattle.wire.proofs.Writing.{left_start, left_step, left_end}
use Rattle.acl.proofs.Named.{luacds_next, luacds_none}
use Rattle.acl.proofs.granted.put_luacds.Goals as goal

pub loop-k-init : goal.loop-k-init
loop-k-init c = record { near = omega arith; left = left_start _ _ _ _ }

pub put_luacd-to-requires : goal.put_luacd-to-requires
put_luacd-to-requires c = omega (arith, c.requires, c.loop-k.invariant.near, c.loop-k-test.true, c.in_use-used.ensures.few)

pub loop-k-preserved : goal.loop-k-preserved
loop-k-preserved c = record {
  near = omega (arith, c.loop-k.invariant.near, c.put_luacd-to.ensures.fits);
  left = left_step (luacds_next _ _ c.loop-k-test.true) c.loop-k.invariant.left c.put_luacd-to.ensures.wrote;
}

pub returns : goal.returns
returns c = record {
  wrote = rw (c.in_use-used.ensures.in_use ∙ c.by_lun-sorted.ensures) at (left_end (luacds_none _ c.loop-k-test.false) c.loop-k.invariant.left);
  fits = omega (arith, c.loop-k.invariant.near, c.loop-k.auto.k-end, c.in_use-used.ensures.few);
}
