-- Those that are left decide.
use Rattle.std.proofs.Common.{◌≡◌, Bool, drop}
use Rattle.std.specs.List.{list_any}
use Rattle.lists.specs.Tests.{DecidesTwo}
use Rattle.lists.proofs.some_related.Given as goal

abbrev pub invariant-loop-y : goal.invariant-loop-y
invariant-loop-y g l = record {
  callable : goal.F-IsAlwaysCallable g l.related;
  left : (f : g.row.T.Denot → g.row.T.Denot → Bool) → DecidesTwo g.F.Fn l.related f → list_any (f l.x) l.others ≡ list_any (f l.x) (drop l.y-index l.others);
}
