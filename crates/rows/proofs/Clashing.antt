-- The test of two rows, by the order in which the code asks: their LUNs, then their units, then their grounds; and the search of the rows of a table.
use mathlib.Core.Path.{◌≡◌, refl, ap, ◌∙◌}
use mathlib.Core.List.{List}
use mathlib.Core.Bool.{Bool, true, false, not, ◌&&◌, ◌||◌, and-false, and-true}
use lib.ListN.{take}
use lib.Dec.{eqb}
use borrow.Author.Tests.{eq-eqb, ne_eqb}
use Rattle.paper.specs.Grounds.{is_taw}
use Rattle.lists.proofs.Tables.{take_pad}
use Rattle.paper.specs.Rows.{clashing, clash_in}
use Rattle.paper.specs.declared.state.Row.{Row}
use Rattle.rows.specs.Table.{no_row, row_table}
use Rattle.rows.specs.Table.{Rows}

module _ (r q : Row) where
  pub one_lun : r.lun ≡ q.lun → clashing r q ≡ not (eqb r.unit q.unit)
  unfolding clashing
  one_lun e = rw (eq-eqb _ _ e) (go (eqb r.unit q.unit) (is_taw r.ground && is_taw q.ground))
    where
      go : (unit grounds : Bool) → not unit || (grounds && (unit && false)) ≡ not unit
      go true true = refl
      go true false = refl
      go false grounds = refl

  pub two_units : (r.lun ≡ q.lun → ⊥) → (r.unit ≡ q.unit → ⊥) → clashing r q ≡ false
  unfolding clashing
  two_units e f = rw (ne_eqb _ _ e, ne_eqb _ _ f) (and-false (is_taw r.ground && is_taw q.ground))

  pub one_unit : (r.lun ≡ q.lun → ⊥) → r.unit ≡ q.unit → clashing r q ≡ is_taw r.ground && is_taw q.ground
  unfolding clashing
  one_unit e f = rw (ne_eqb _ _ e, eq-eqb _ _ f) (and-true (is_taw r.ground && is_taw q.ground))

-- the rows in use of a table are those that it was built from
pub rows_built : (l : List Row) {rows : Rows} {us : List Row} → rows ≡ row_table l → us ≡ take rows.count rows.items → us ≡ l
rows_built l e h = h ∙ ap (λ (t : Rows). take t.count t.items) e ∙ take_pad no_row 96 l

pub clash_built : (l : List Row) {rows : Rows} {us : List Row} {r : Bool} → rows ≡ row_table l → us ≡ take rows.count rows.items → r ≡ clash_in us → r ≡ clash_in l
clash_built l e h q = q ∙ ap clash_in (rows_built l e h)
