-- The pages of the ACEs that are left, and those counted, are together all pages.
use Rattle.std.proofs.Common.{ℕ, ◌+◌, ◌*◌, ◌≤◌, ◌≡◌, List, length, drop}
use Rattle.lists.specs.Lists.{gather}
use Rattle.paper.specs.Reports.{ace_bytes}
use Rattle.report.proofs.sized.aces_size.Given as goal

abbrev pub invariant-loop-a : goal.invariant-loop-a
invariant-loop-a l = record {
  most : l.total ≤ 352 * l.a-index;
  counted : (luns : List ℕ) → l.total + length (gather (ace_bytes luns) (drop l.a-index l.aces)) ≡ length (gather (ace_bytes luns) l.aces);
}
