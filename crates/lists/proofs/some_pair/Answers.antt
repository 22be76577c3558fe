use Rattle.std.proofs.Common.{sym}
use mathlib.Core.Path.{◌∙◌}
use Rattle.lists.proofs.Passing.{pairs_found, pairs_more, pairs_none}
use Rattle.lists.proofs.some_pair.Goals as goal

pub returns-then-some_related : goal.returns-then-some_related
returns-then-some_related g c = λ f d. pairs_found f c.in-Some.ensures.cases.0 (sym c.if-some_related.true ∙ c.some_related.ensures f d) ∙ sym (c.loop-x.invariant.left f d)

pub loop-x-preserved : goal.loop-x-preserved
loop-x-preserved g c = record {
  callable = c.loop-x.invariant.callable;
  left = λ f d. c.loop-x.invariant.left f d ∙ pairs_more f c.in-Some.ensures.cases.0 (sym c.if-some_related.false ∙ c.some_related.ensures f d);
}

pub returns : goal.returns
returns g c = λ f d. pairs_none f _ c.in_default.ensures.cases ∙ sym (c.loop-x.invariant.left f d)
