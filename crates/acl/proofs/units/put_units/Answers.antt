-- The head, and the lines.
use Rattle.std.proofs.Common.{arith}
use Rattle.wire.proofs.Writing.{then}
use Rattle.acl.specs.State.{units_text}
use Rattle.acl.proofs.units.put_units.Goals as goal

pub returns : goal.returns
unfolding units_text
returns c = record {
  wrote = then c.put_head-next.ensures.wrote c.put_lines.ensures.wrote;
  fits = omega (arith, c.put_head-next.ensures.fits, c.put_lines.ensures.fits);
}
