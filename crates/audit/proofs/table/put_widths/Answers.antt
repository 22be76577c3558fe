use Prim.Native.Nat.{ℕ}
use mathlib.Core.Path.{ap, ◌∙◌}
use mathlib.Core.List.{List, [], ◌∷◌}
use native.Mathlib.Omega.{arith}
use Rattle.lists.specs.Lists.{count}
use Rattle.audit.specs.Ledger.{runs_of}
use Rattle.audit.specs.Cells.{column_width, column_widths}
use Rattle.audit.specs.declared.cells.Asked.{Asked}
use Rattle.audit.proofs.Writers.{laid_next, laid_end, below_next, below_end, wrote_as}
use Rattle.audit.proofs.Columns.{column_width_lem}
use Rattle.audit.proofs.table.put_widths.Goals as goal

abbrev width_byte : Asked → List ℕ → List ℕ → ℕ → List ℕ
width_byte a ended standing column = column_width a (runs_of 24 ended) (runs_of 14 standing) column ∷ []

pub loop-k-preserved : goal.loop-k-preserved
unfolding column_widths count
loop-k-preserved c =
    let v = c.loop-k.invariant in
    let a = c.args in
    let wide = column_width_lem a.audited.now.asked c.loop-k.k (runs_of 24 a.audited.now.ended.now) (runs_of 14 a.audited.now.standing.now) (omega (arith, c.put_head-head.ensures.ended)) c.widen-first.ensures c.widen-wide.ensures in (
      c.widen-wide.auto.text ∙ (c.widen-first.auto.text ∙ (c.put_head-head.auto.text ∙ v.0)),
      laid_next v.1 (below_next 6 c.loop-k-test.true) (omega (arith, c.put-at.ensures.ended)) (wrote_as (ap (λ x. x ∷ []) wide) c.put-at.ensures),
    )

pub returns : goal.returns
unfolding column_widths count
returns c = laid_end c.loop-k.invariant.1 (below_end 6 c.loop-k-test.false)
