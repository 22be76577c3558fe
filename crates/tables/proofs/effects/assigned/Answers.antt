-- The one table that changes is the one with the proxy LUN added.
use mathlib.Core.Path.{ap, ◌∙◌}
use Rattle.paper.specs.Tables.{with_proxy_table}
use Rattle.paper.specs.Applied.{applied}
use Rattle.tables.proofs.effects.assigned.Goals as goal

pub returns : goal.returns
unfolding applied
returns c = c.with_proxies.ensures ∙ ap (with_proxy_table c.args.c) (c.proxy_added-standing.ensures ∙ rw c.lun_head.ensures)
