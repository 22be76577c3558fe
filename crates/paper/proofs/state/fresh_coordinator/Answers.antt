-- Each table is the empty one that its callee ensures.
use Rattle.paper.specs.Fresh.{fresh}
use Rattle.paper.proofs.state.fresh_coordinator.Goals as goal

pub returns : goal.returns
unfolding fresh
returns c = rw (c.no_proxies.ensures, c.no_tokens.ensures, c.no_acl.ensures, c.no_units.ensures, c.no_initiators.ensures)
