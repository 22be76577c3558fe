-- Every setter's table is the empty one, in the definition's order.
use mathlib.Core.Path.{ap₂, ◌∙◌}
use Rattle.paper.specs.Tables.{with_initiators, with_acl, with_token_table, with_proxy_table}
use Rattle.paper.specs.Applied.{applied}
use Rattle.tables.proofs.effects.emptied.Goals as goal

pub returns : goal.returns
unfolding applied
returns c = c.with_initiators.ensures ∙ ap₂ with_initiators (c.with_proxies-bare.ensures ∙ ap₂ with_proxy_table (c.with_tokens.ensures ∙ ap₂ with_token_table (c.with_acl-off.ensures ∙ ap₂ with_acl c.with_switch.ensures c.no_acl.ensures) c.no_tokens.ensures) c.no_proxies.ensures) c.nobody_enrolled.ensures
