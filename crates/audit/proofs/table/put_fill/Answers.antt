use Prim.Native.Nat.{ℕ}
use mathlib.Core.Path.{◌∙◌, ap}
use mathlib.Core.List.{List}
use native.Mathlib.Omega.{arith}
use native.Mathlib.Nat.{sub-eq-zero_of_le}
use lib.ListN.{replicate}
use Rattle.lists.proofs.Walk.{blanks_one}
use Rattle.wire.proofs.Writing.{left_step, left_end}
use Rattle.audit.specs.Cells.{fill_text}
use Rattle.audit.proofs.table.put_fill.Goals as goal

abbrev blanks : ℕ → List ℕ
blanks n = replicate n 0x20

pub loop-k-preserved : goal.loop-k-preserved
loop-k-preserved c =
    let v = c.loop-k.invariant in
    (v.0, v.1, v.2, omega (arith, v.3, c.put-to.ensures.ended), c.put-to.auto.buf ∙ v.4, left_step (blanks_one 0x20 _ c.loop-k.k (omega arith)) v.5 c.put-to.ensures)

pub returns : goal.returns
unfolding fill_text
returns c =
    let v = c.loop-k.invariant in
    rw v.0 (left_end (ap blanks (sub-eq-zero_of_le (omega arith))) v.5)
