use mathlib.Core.Path.{refl, sym, ◌∙◌}
use borrow.Author.Tests.{eq-eqb, ne_eqb}
use Rattle.tables.proofs.Listing.{tokens_first, tokens_next, tokens_none}
use Rattle.tables.proofs.tokens.lists_token.Goals as goal

pub loop-k-init : goal.loop-k-init
loop-k-init c = rw (tokens_first _ _ refl, c.be16.ensures)

pub returns-then-be64-n : goal.returns-then-be64-n
returns-then-be64-n c = sym (c.loop-k.invariant ∙ rw (tokens_next _ _ _ c.loop-k-test.true, eq-eqb _ _ (sym c.be64.ensures ∙ c.if-be64-n.true)))

pub loop-k-preserved : goal.loop-k-preserved
loop-k-preserved c = c.loop-k.invariant ∙ rw (tokens_next _ _ _ c.loop-k-test.true, ← c.be64.ensures, ne_eqb _ _ c.if-be64-n.false)

pub returns : goal.returns
returns c = sym (c.loop-k.invariant ∙ rw (tokens_none _ _ _ _ c.loop-k-test.false))
