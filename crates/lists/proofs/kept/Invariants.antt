-- What was kept is what passes among the elements passed.
use Rattle.std.proofs.Common.{◌≤◌, Bool, take, filter}
use Rattle.lists.specs.Tests.{Decides}
use Rattle.lists.proofs.Tables.{Built}
use Rattle.lists.proofs.kept.Given as goal

abbrev pub invariant-loop-x : goal.invariant-loop-x
invariant-loop-x g l = record {
  callable : goal.F-IsAlwaysCallable g l.passes;
  behind : l.count ≤ l.x-index;
  held : (p : g.row.T.Denot → Bool) → Decides g.F.Fn l.passes p → Built l.fn.blank g.row.N (filter p (take l.x-index l.xs)) l.items l.count;
}
