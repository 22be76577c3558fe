use Rattle.audit.proofs.CellSizes.{row_most}
use native.Mathlib.Omega.{arith}
use Rattle.wire.proofs.Writing.{then}
use Rattle.audit.specs.Cells.{row_text}
use Rattle.audit.proofs.Writers.{laid_next, laid_end, below_next, below_end, ends_within}
use Rattle.audit.proofs.CellSizes.{line_cell_most, fill_most}
use Rattle.audit.proofs.Columns.{cell_filled}
use borrow.Author.Rules.{rules}
use Rattle.audit.proofs.table.put_row.Goals as goal

pub loop-k-preserved : goal.loop-k-preserved
unfolding row_text
loop-k-preserved c =
    let v = c.loop-k.invariant in (
      omega arith,
      laid_next v.1 (below_next 6 c.loop-k-test.true)
          (omega (arith, ends_within (line_cell_most _ _ _) c.put_line_cell-end.ensures, ends_within (fill_most _ _ _ (search rules)) c.put_fill-at.ensures))
          (cell_filled _ c.put_line_cell-end.ensures c.put_fill-at.ensures (omega (arith, c.put_line_cell-end.ensures.ended)) c.byte.ensures),
    )

pub returns-clause-text : goal.returns-clause-text
unfolding row_text
returns-clause-text c = then (laid_end c.loop-k.invariant.1 (below_end 6 c.loop-k-test.false)) (then c.put_line_cell-last.ensures c.put.ensures)

pub returns-clause-size : goal.returns-clause-size
returns-clause-size c = ends_within (row_most _ _ _ _ (λ k. search rules)) (returns-clause-text c)
