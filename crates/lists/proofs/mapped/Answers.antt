use Rattle.std.proofs.Common.{refl}
use Rattle.lists.proofs.Passing.{made_more, made_all}
use Rattle.lists.proofs.mapped.Goals as goal

pub loop-k-preserved : goal.loop-k-preserved
loop-k-preserved g c = record {
  callable = c.loop-k.invariant.callable;
  made = λ m d. made_more (c.loop-k.invariant.made m d) c.index-from-k.result c.loop-k-test.true (d _ _ (record { shown = _; shows = refl; says = record { met = c.made.ensures } }));
}

pub returns : goal.returns
returns g c = λ m d. made_all (c.loop-k.invariant.made m d) c.loop-k-test.false
