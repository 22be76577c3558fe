-- The head, and the lines.
use mathlib.Core.Path.{◌∙◌}
use Rattle.std.proofs.Common.{rules, arith}
use Rattle.wire.proofs.Writing.{then}
use Rattle.acl.specs.State.{aces_text, ace_line}
use Rattle.acl.proofs.granted.put_aces.Goals as goal

pub put_each-requires : goal.put_each-requires
put_each-requires c = record {
  most = 607;
  room = omega (arith, c.in_use-2.ensures.few, c.put_head-next.ensures.fits, c.requires);
  takes = λ buf to x m h. search rules;
  ends = λ buf left to next x m p. search rules;
}

pub returns : goal.returns
unfolding aces_text
returns c =
    record {
      wrote = then (rw c.in_use.ensures.in_use at c.put_head-next.ensures.wrote)
          (rw (c.in_use-2.ensures.in_use ∙ c.by_id-sorted.ensures)
          at (c.put_each.ensures.wrote ace_line c.args.limit (λ buf left to next x m p. search rules)));
      fits = omega (arith, c.put_head-next.ensures.fits, c.put_each.ensures.fits 607 (λ buf left to next x m p. search rules), c.in_use-2.ensures.few);
    }
