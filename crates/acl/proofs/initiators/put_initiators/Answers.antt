-- The head, and the lines.
use Rattle.std.proofs.Common.{arith}
use Rattle.lists.proofs.Parts.{length_parts}
use Rattle.wire.proofs.Writing.{then}
use Rattle.acl.specs.State.{initiators_text}
use Rattle.acl.proofs.initiators.put_initiators.Goals as goal

pub returns : goal.returns
unfolding initiators_text
returns c = record {
  wrote = rw (length_parts 24 c.args.t.now.count c.args.t.now.ids) (then c.put_head-next.ensures.wrote c.put_lines.ensures.wrote);
  fits = omega (arith, c.put_head-next.ensures.fits, c.put_lines.ensures.fits);
}
