-- The initiators that are left to search decide.
use Rattle.std.proofs.Common.{◌≡◌, ◌-◌}
use Rattle.lists.specs.Lists.{any, count}
use Rattle.paper.specs.Rows.{clash_for, some_clash}
use Rattle.rows.proofs.clashes.some_clash.Given as goal

abbrev pub invariant-loop-i : goal.invariant-loop-i
invariant-loop-i l = some_clash l.c ≡ any (clash_for l.c) (count l.i (l.i-end - l.i))
