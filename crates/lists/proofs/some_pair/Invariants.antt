-- The elements that are left decide.
use Rattle.std.proofs.Common.{◌≡◌, Bool, length}
use Rattle.lists.specs.Lists.{pairs}
use Rattle.lists.specs.Tests.{DecidesTwo}
use Rattle.lists.proofs.some_pair.Given as goal

abbrev pub invariant-loop-x : goal.invariant-loop-x
invariant-loop-x g l = record {
  callable : goal.F-IsAlwaysCallable g l.related;
  left : (f : g.row.T.Denot → g.row.T.Denot → Bool) → DecidesTwo g.F.Fn l.related f → pairs f l.xs ≡ pairs f l.rest;
}

abbrev pub decreases-loop-x : goal.decreases-loop-x
decreases-loop-x g l = length l.rest
