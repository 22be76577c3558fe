-- Demand 3, for a state that holds with its history: "the reach list names every ground of access that stands, each once, in order, and no other". A list with that property is unique, no LUN opens two units for one initiator, and while access controls are off the list is every unit at its default LUN for every initiator.
use Prim.Native.Nat.{ℕ, ◌<◌}
use mathlib.Core.Path.{◌≡◌, refl, ap, sym, ◌∙◌, subst}
use mathlib.Core.Bool.{true, false}
use mathlib.Core.List.{List}
use native.Mathlib.Omega.{arith}
use lib.Dec.{eqb}
use borrow.Author.Tests.{eqb-true, eq-eqb}
use Rattle.lists.specs.Lists.{◌∈◌, gather, below}
use Rattle.lists.proofs.Tests.{split, eqb_sym}
use Rattle.lists.proofs.Members.{in_gather, from_gather, pairs_one}
use Rattle.lists.proofs.Parts.{in_count, from_count}
use Rattle.lists.proofs.Order.{in_sort, from_sort, sort_ascending, same_members}
use Rattle.paper.specs.Setup.{Setup}
use Rattle.paper.specs.Rows.{rows_of, clashing}
use Rattle.paper.specs.Reports.{row_before, reach_rows}
use Rattle.paper.specs.Readings.{History, Stands, OneUnit}
use Rattle.paper.specs.Runs.{Names}
use Rattle.paper.proofs.Stood.{stood}
use Rattle.paper.proofs.Invariant.{Holds}
use Rattle.paper.proofs.FewerRows.{clash_none}
use Rattle.paper.proofs.RowsInOrder.{rows_order}
use Rattle.paper.proofs.RowsDiffer.{all_rows_differ}
use Rattle.paper.proofs.RowsStand.{initiators, row_stands, stands_row}
use Rattle.paper.specs.declared.state.Row.{Row}
use Rattle.paper.specs.declared.state.Coordinator.{Coordinator}

-- "a list with that property is unique"
pub names_unique : (P : Row → Type 0) (l m : List Row) → Names l P → Names m P → l ≡ m
names_unique P l m a b =
    same_members rows_order l m a.0 b.0 (λ r k. (b.1 r).1 ((a.1 r).0 k)) (λ r k. (a.1 r).1 ((b.1 r).0 k))

module _ (w : Setup) (h : History) (c : Coordinator) (holds : Holds w h c) where
  listed : (r : Row) → Stands w h r → r ∈ reach_rows c
  unfolding reach_rows
  listed r k =
      in_sort row_before
      (in_gather (rows_of c) (in_count 0 c.initiators.count (omega arith) (omega (arith, k.initiator, initiators w h c holds))) (stands_row w h c holds k))

  unlisted : (r : Row) → r ∈ reach_rows c → Stands w h r
  unfolding reach_rows
  unlisted r m =
      let (i, n, k) = from_gather (rows_of c) (below c.initiators.count) (from_sort row_before (gather (rows_of c) (below c.initiators.count)) m) in
      row_stands w h c holds i (omega (arith, (from_count 0 c.initiators.count n).1)) k

  pub reach_names : Names (reach_rows c) (Stands w h)
  unfolding reach_rows
  reach_names = (
    sort_ascending rows_order (gather (rows_of c) (below c.initiators.count)) (λ r m. tt) (all_rows_differ c (stood c holds.stands) c.initiators.count),
    λ r. (unlisted r, listed r),
  )

  -- ---- "No LUN opens two units for one initiator."
  two_units : (r q : Row) → r.lun ≡ q.lun → eqb r.unit q.unit ≡ false → clashing r q ≡ true
  unfolding clashing
  two_units r q e f = rw (eq-eqb r.lun q.lun e, f)

  one_unit_of : (i : ℕ) (r q : Row) → i < c.initiators.count → r ∈ rows_of c i → q ∈ rows_of c i → r.lun ≡ q.lun → r.unit ≡ q.unit
  one_unit_of i r q l m n e =
      split (eqb r.unit q.unit) (eqb-true r.unit q.unit) (λ f. ap (λ x. x.unit) (pairs_one clashing (rows_of c i) (clash_none c (stood c holds.stands).clashes i l) m n (two_units r q e f) (two_units q r (sym e) (eqb_sym q.unit r.unit ∙ f))))

  -- in the history's terms
  pub one_unit : OneUnit w h
  one_unit i l u v p q =
      let a = p.stands in
      let b = q.stands in
      one_unit_of i _ _ (omega (arith, a.initiator, initiators w h c holds)) (stands_row w h c holds a) (stands_row w h c holds b) refl

  -- and in the list's: a W row has no other unit at its LUN either
  pub one_unit_listed : (r q : Row) → r ∈ reach_rows c → q ∈ reach_rows c → r.initiator ≡ q.initiator → r.lun ≡ q.lun → r.unit ≡ q.unit
  one_unit_listed r q m n e f =
      let a = unlisted r m in
      let b = unlisted q n in
      one_unit_of r.initiator r q (omega (arith, a.initiator, initiators w h c holds)) (stands_row w h c holds a) (subst (λ i. q ∈ rows_of c i) (sym e) (stands_row w h c holds b)) f
