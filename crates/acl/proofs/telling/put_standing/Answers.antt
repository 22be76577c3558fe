-- The first line, and the five parts.
use Rattle.std.proofs.Common.{arith}
use Rattle.wire.proofs.Writing.{then}
use Rattle.report.proofs.PageSizes.{counts_of}
use Rattle.acl.specs.State.{acl_text}
use Rattle.acl.proofs.telling.put_standing.Goals as goal

pub put_initiators-second-requires : goal.put_initiators-second-requires
put_initiators-second-requires c = ((counts_of c.args.c.now c.requires).few_initiators, omega (arith, c.put_switch-first.ensures.fits))

pub returns : goal.returns
unfolding acl_text
returns c =
    rw (c.in_use.ensures.in_use, c.in_use-2.ensures.in_use)
    at (then c.put_switch-first.ensures.wrote (then c.put_initiators-second.ensures.wrote (then c.put_units-third.ensures.wrote (then c.put_aces-fourth.ensures.wrote (then c.put_tokens-fifth.ensures.wrote c.put_proxies.ensures.wrote)))))
