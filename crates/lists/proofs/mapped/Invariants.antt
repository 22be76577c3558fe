-- What was made is what is made of the entries passed.
use Rattle.lists.specs.Tests.{Makes}
use Rattle.lists.proofs.Passing.{Made}
use Rattle.lists.proofs.mapped.Given as goal

abbrev pub invariant-loop-k : goal.invariant-loop-k
invariant-loop-k g l = record {
  callable : goal.F-IsAlwaysCallable g l.made;
  made : (m : g.row.A.Denot → g.row.B.Denot) → Makes g.F.Fn l.made m → Made m l.from g.row.N l.k l.items;
}
