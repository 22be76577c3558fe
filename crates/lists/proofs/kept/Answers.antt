use Rattle.std.proofs.Common.{arith, sym, refl}
use Rattle.std.proofs.lemmas.List.{take_all}
use mathlib.Core.Path.{◌∙◌}
use Rattle.lists.proofs.Passing.{kept_more, kept_same, built_filled}
use Rattle.lists.proofs.kept.Goals as goal
use Rattle.lists.proofs.kept.Goals.{then-passes, else-passes}

pub loop-x-preserved : goal.loop-x-preserved
loop-x-preserved g c =
    elim c.if-passes.branch [
      | then-passes w ↦ record {
        callable = c.loop-x.invariant.callable;
        behind = omega (arith, w.count-is, c.loop-x.invariant.behind);
        held = λ p d. rw (w.items-is, w.count-is) (kept_more p _ c.loop-x-test.true c.x-item.is (c.loop-x.invariant.held p d) (sym (d _ _ (record { shown = _; shows = refl; says = record { met = c.passes.ensures } })) ∙ w.if-passes.true) (omega (arith, c.requires.few, c.loop-x.invariant.behind, c.loop-x-test.true)));
      }
      | else-passes w ↦ record {
        callable = c.loop-x.invariant.callable;
        behind = omega (arith, w.count-is, c.loop-x.invariant.behind);
        held = λ p d. rw (w.items-is, w.count-is) (kept_same p _ c.loop-x-test.true c.x-item.is (c.loop-x.invariant.held p d) (sym (d _ _ (record { shown = _; shows = refl; says = record { met = c.passes.ensures } })) ∙ w.if-passes.false));
      }
    ]

pub returns : goal.returns
returns g c = λ p d. built_filled (rw (take_all _ _ c.loop-x-test.false) at (c.loop-x.invariant.held p d))
