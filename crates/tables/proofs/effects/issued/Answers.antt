-- The one table that changes is the one with the token added.
use mathlib.Core.Path.{ap, ◌∙◌}
use Rattle.paper.specs.Tables.{with_token_table}
use Rattle.tables.proofs.effects.issued.Goals as goal

pub returns : goal.returns
returns c = c.with_tokens.ensures ∙ ap (with_token_table c.args.c) c.token_added-live.ensures
