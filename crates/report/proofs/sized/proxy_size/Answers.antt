-- Without tokens there is no page; with tokens it is its head and 20 bytes for each.
use Rattle.std.proofs.Common.{sym}
use mathlib.Core.Path.{◌∙◌}
use Rattle.report.proofs.PageSizes.{no_proxy_length, proxy_length}
use Rattle.report.proofs.sized.proxy_size.Goals as goal

pub returns-then-is_empty : goal.returns-then-is_empty
returns-then-is_empty c = λ luns. no_proxy_length luns c.args.live.now (sym c.is_empty.ensures ∙ c.if-is_empty.true)

pub returns-else-is_empty : goal.returns-else-is_empty
returns-else-is_empty c = λ luns. proxy_length luns c.args.live.now (sym c.is_empty.ensures ∙ c.if-is_empty.false)
