use Rattle.std.proofs.Common.{sym, refl}
use mathlib.Core.Path.{◌∙◌}
use Rattle.lists.proofs.Passing.{left_found, left_more}
use Rattle.lists.proofs.some_related.Goals as goal

pub returns-then-related : goal.returns-then-related
returns-then-related g c = λ f d. left_found (f c.args.x.now) c.y-item.result _ (c.loop-y.invariant.left f d) c.loop-y-test.true (rw (← c.y-item.is) (sym (d _ _ _ (record { first = _; second = _; shows = (refl, refl); says = record { met = c.related.ensures } })) ∙ c.if-related.true))

pub loop-y-preserved : goal.loop-y-preserved
loop-y-preserved g c = record {
  callable = c.loop-y.invariant.callable;
  left = λ f d. left_more (f c.args.x.now) c.y-item.result _ (c.loop-y.invariant.left f d) c.loop-y-test.true (rw (← c.y-item.is) (sym (d _ _ _ (record { first = _; second = _; shows = (refl, refl); says = record { met = c.related.ensures } })) ∙ c.if-related.false));
}
