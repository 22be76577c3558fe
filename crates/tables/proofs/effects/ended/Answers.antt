-- Tokens and proxy LUNs are filtered by the same ending, both against the tokens before it.
use mathlib.Core.Path.{ap, ap₂, ◌∙◌}
use Rattle.paper.specs.Tables.{with_token_table, with_proxy_table}
use Rattle.paper.specs.Applied.{applied}
use Rattle.tables.proofs.effects.ended.Goals as goal

pub returns : goal.returns
unfolding applied
returns c = c.with_proxies.ensures ∙ ap₂ with_proxy_table (c.with_tokens.ensures ∙ ap (with_token_table c.args.c) c.tokens_after-live.ensures) (rw c.in_use.ensures.in_use at c.proxies_after-standing.ensures)
