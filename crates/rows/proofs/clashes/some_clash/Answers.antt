use mathlib.Core.Path.{sym, ◌∙◌}
use native.Mathlib.Nat.{sub-zero}
use Rattle.paper.specs.Rows.{rows_of, some_clash}
use Rattle.lists.proofs.Places.{between_cons, between_nil}
use Rattle.rows.proofs.Clashing.{clash_built}
use Rattle.rows.proofs.clashes.some_clash.Goals as goal

pub loop-i-init : goal.loop-i-init
unfolding some_clash
loop-i-init c = rw sub-zero

pub returns-then-clash_in : goal.returns-then-clash_in
unfolding some_clash
returns-then-clash_in c =
    sym (c.loop-i.invariant ∙ rw (between_cons _ _ c.loop-i-test.true, sym (clash_built (rows_of c.args.c.now c.loop-i.i) c.rows_of.ensures c.in_use.ensures.in_use c.clash_in.ensures) ∙ c.if-clash_in.true))

pub loop-i-preserved : goal.loop-i-preserved
unfolding some_clash
loop-i-preserved c =
    c.loop-i.invariant ∙ rw (between_cons _ _ c.loop-i-test.true, sym (clash_built (rows_of c.args.c.now c.loop-i.i) c.rows_of.ensures c.in_use.ensures.in_use c.clash_in.ensures) ∙ c.if-clash_in.false)

pub returns : goal.returns
unfolding some_clash
returns c = sym (c.loop-i.invariant ∙ rw (between_nil _ _ c.loop-i-test.false))
