-- What is left are the entries that are left.
use Rattle.std.proofs.Common.{ℕ, List, ◌+◌, ◌*◌, ◌≤◌, length, drop}
use Rattle.lists.specs.Lists.{gather}
use Rattle.wire.specs.Write.{writes}
use Rattle.wire.proofs.Writing.{Left}
use Rattle.report.specs.Each.{EndsBy, WritesEach}
use Rattle.report.proofs.each.put_each.Given as goal

abbrev pub invariant-loop-x : goal.invariant-loop-x
invariant-loop-x g l = record {
  near : (most : ℕ) → EndsBy g.F.Fn l.put most l.xs → l.to ≤ l.at + most * l.x-index;
  left : (bytes : g.row.T.Denot → List ℕ) (limit : ℕ) → WritesEach g.F.Fn l.put limit bytes l.xs → Left limit l.to (gather bytes (drop l.x-index l.xs)) l.buf (l.at + length (gather bytes l.xs)) (writes limit l.at (gather bytes l.xs) l.initial.buf);
}
