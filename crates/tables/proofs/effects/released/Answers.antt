-- The one table that changes is the one without that proxy LUN.
use mathlib.Core.Path.{ap, ◌∙◌}
use Rattle.paper.specs.Tables.{with_proxy_table}
use Rattle.paper.specs.Applied.{applied}
use Rattle.tables.proofs.effects.released.Goals as goal

pub returns : goal.returns
unfolding applied
returns c = c.with_proxies.ensures ∙ ap (with_proxy_table c.args.c) c.proxy_released-standing.ensures
