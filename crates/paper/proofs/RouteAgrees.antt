-- The route question agrees with the reach list: it answers a unit exactly when the list has a row with that initiator and LUN whose ground is not W, and then that row's unit; and 20h/01h exactly when only W rows have the LUN.
use Prim.Native.Nat.{ℕ, ◌<◌}
use mathlib.Core.Path.{◌≡◌, refl, ap, sym, ◌∙◌, subst}
use mathlib.Core.Bool.{Bool, true, false, cond, ◌&&◌}
use Rattle.std.specs.Prelude.{Option, Some, None}
use native.Mathlib.Omega.{arith}
use borrow.Author.Tests.{lt-leb, eqb-true, eq-eqb}
use Rattle.lists.specs.Lists.{◌∈◌}
use Rattle.lists.proofs.Tests.{clashes, and_true}
use Rattle.lists.proofs.Members.{find_in, find_none, any_in, in_any}
use Rattle.wire.specs.Lun.{lun_of}
use Rattle.paper.specs.Grounds.{opens_by, is_w}
use Rattle.paper.specs.Setup.{Setup}
use Rattle.paper.specs.Rows.{has_lun, row_with, pending_has, rows_of}
use Rattle.paper.specs.Reports.{reach_rows}
use Rattle.paper.specs.Outcomes.{opens_or, opens, routed}
use Rattle.paper.specs.Readings.{History}
use Rattle.paper.proofs.Stood.{stood}
use Rattle.paper.proofs.Invariant.{Holds}
use Rattle.paper.proofs.OwnRows.{rows_own}
use Rattle.paper.proofs.RowsStand.{row_stands, stands_row}
use Rattle.paper.proofs.ReachNames.{reach_names, one_unit_listed}
use Rattle.paper.specs.declared.state.Row.{Row}
use Rattle.paper.specs.declared.state.Coordinator.{Coordinator}
use Rattle.paper.specs.declared.answers.Condition.{Condition}
use Rattle.paper.specs.declared.answers.Condition.TheVariants.{PendingEnrolled, OpensNothing}
use Rattle.paper.specs.declared.answers.Opened.TheVariants.{Opens, Closed}

-- a row of the list with that initiator and LUN, whose ground passes a test
pub record Listed (c : Coordinator) (i l : ℕ) (on : Row → Bool) : Type 0 where
  pub row : Row
  pub in_list : row ∈ reach_rows c
  pub initiator : row.initiator ≡ i
  pub lun : lun_of row.lun ≡ l
  pub ground : on row ≡ true

-- a row that is no W row, and one that is
abbrev pub not_w : Row → Bool
not_w r = opens_by r.ground

abbrev pub only_w : Row → Bool
only_w r = is_w r.ground

module _ (w : Setup) (h : History) (c : Coordinator) (holds : Holds w h c) (i : ℕ) (there : i < c.initiators.count) (l : ℕ) where
  -- the question looks at the rows of the initiator
  asked : routed c i l ≡ opens l (rows_of c i)
  unfolding routed
  asked = rw (holds.stands, lt-leb c.initiators.count i there)

  -- ---- between a row of the initiator and a row of the list
  listed : {r : Row} → r ∈ rows_of c i → r ∈ reach_rows c
  listed {r} m = ((reach_names w h c holds).1 r).1 (row_stands w h c holds i there m)

  own_row : {r : Row} → r ∈ reach_rows c → r.initiator ≡ i → r ∈ rows_of c i
  own_row {r} m e =
      subst (λ j. r ∈ rows_of c j) e (stands_row w h c holds (((reach_names w h c holds).1 r).0 m))

  own : {r : Row} → r ∈ rows_of c i → r.initiator ≡ i
  own m = (rows_own c (stood c holds.stands) i m).0

  as_listed : (on : Row → Bool) {r : Row} → r ∈ rows_of c i → on r && has_lun l r ≡ true → Listed c i l on
  as_listed on {r} m e =
      let parted = and_true (on r) (has_lun l r) e in
      record { row = r; in_list = listed m; initiator = own m; lun = eqb-true (lun_of r.lun) l parted.1; ground = parted.0 }

  passes : (on : Row → Bool) (x : Listed c i l on) → on x.row && has_lun l x.row ≡ true
  passes on x = rw (x.ground, eq-eqb (lun_of x.row.lun) l x.lun)

  -- ---- a unit is answered where the list has a row that is no W row, and it is that row's
  opens_one : (o : Option Row) (k : Condition) {u : ℕ} → opens_or o k ≡ Opens u → (r : Row) × (o ≡ Some r) × (r.unit ≡ u)
  opens_one None k e = let z : ◌≡◌ {A = ℕ} 0 1 = cc in absurd (omega arith)
  opens_one (Some r) k e = (r, refl, cc)

  pub route_unit : (u : ℕ) → routed c i l ≡ Opens u → (x : Listed c i l not_w) × (x.row.unit ≡ u)
  unfolding opens row_with as_listed
  route_unit u e =
      let (r, f, q) = opens_one (row_with opens_by l (rows_of c i)) (cond (pending_has l (rows_of c i)) PendingEnrolled OpensNothing) (sym asked ∙ e) in
      let (m, p) = find_in (λ x. not_w x && has_lun l x) (rows_of c i) f in
      (as_listed not_w m p, q)

  found : (x : Listed c i l not_w) (o : Option Row) (k : Condition) → row_with opens_by l (rows_of c i) ≡ o → opens_or o k ≡ Opens x.row.unit
  unfolding row_with
  found x None k e =
      clashes (passes not_w x) (find_none (λ r. not_w r && has_lun l r) e (own_row x.in_list x.initiator))
  found x (Some r) k e =
      let (m, p) = find_in (λ q. not_w q && has_lun l q) (rows_of c i) e in
      let lun = eqb-true (lun_of r.lun) l (and_true (not_w r) (has_lun l r) p).1 in
      let same : r.lun ≡ x.row.lun = omega (arith, lun, x.lun) in
      ap Opens (one_unit_listed w h c holds r x.row (listed m) x.in_list (own m ∙ sym x.initiator) same)

  pub unit_route : (x : Listed c i l not_w) → routed c i l ≡ Opens x.row.unit
  unfolding opens
  unit_route x =
      asked ∙ found x (row_with opens_by l (rows_of c i)) (cond (pending_has l (rows_of c i)) PendingEnrolled OpensNothing) refl

  -- ---- 20h/01h is answered where W rows have the LUN, and no other row has it
  closed_none : (o : Option Row) (k : Condition) {j : Condition} → opens_or o k ≡ Closed j → (o ≡ None) × (k ≡ j)
  closed_none None k e = (refl, cc)
  closed_none (Some r) k e = let z : ◌≡◌ {A = ℕ} 0 1 = cc in absurd (omega arith)

  no_other : row_with opens_by l (rows_of c i) ≡ None → Listed c i l not_w → ⊥
  unfolding row_with
  no_other e x =
      clashes (passes not_w x) (find_none (λ r. not_w r && has_lun l r) e (own_row x.in_list x.initiator))

  none_there : (Listed c i l not_w → ⊥) → (o : Option Row) → row_with opens_by l (rows_of c i) ≡ o → o ≡ None
  unfolding row_with
  none_there n None e = refl
  none_there n (Some r) e =
      let (m, p) = find_in (λ q. not_w q && has_lun l q) (rows_of c i) e in absurd (n (as_listed not_w m p))

  some_pending : (b : Bool) → cond b PendingEnrolled OpensNothing ≡ PendingEnrolled → b ≡ true
  some_pending true e = refl
  some_pending false e = let z : ◌≡◌ {A = ℕ} 0 1 = cc in absurd (omega arith)

  pub route_pending : routed c i l ≡ Closed PendingEnrolled → (Listed c i l not_w → ⊥) × Listed c i l only_w
  unfolding opens pending_has
  route_pending e =
      let (n, k) = closed_none (row_with opens_by l (rows_of c i)) (cond (pending_has l (rows_of c i)) PendingEnrolled OpensNothing) (sym asked ∙ e) in
      let (r, m, q) = in_any (λ x. only_w x && has_lun l x) (rows_of c i) (some_pending (pending_has l (rows_of c i)) k) in
      (no_other n, as_listed only_w m q)

  pub pending_route : (Listed c i l not_w → ⊥) → Listed c i l only_w → routed c i l ≡ Closed PendingEnrolled
  unfolding opens pending_has
  pending_route n x =
      let None-found = none_there n (row_with opens_by l (rows_of c i)) refl in
      let pending = any_in (λ r. only_w r && has_lun l r) (own_row x.in_list x.initiator) (passes only_w x) in
      asked ∙ rw (None-found, pending)
