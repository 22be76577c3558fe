-- "Ascending by those four": the order of rows is strict and total, so that a list in that order is known by its rows.
use Prim.Native.Nat.{ℕ, ◌<◌}
use mathlib.Core.Path.{◌≡◌, refl, ap, sym, ◌∙◌}
use mathlib.Core.Bool.{Bool, true, false, cond, ◌&&◌}
use native.Mathlib.Omega.{arith}
use lib.Dec.{eqb, ltb}
use borrow.Author.Tests.{ltb-true, ltb-false, lt-ltb, le-ltb, eqb-true, eq-eqb}
use Rattle.lists.proofs.Tests.{split, and_true, or_false}
use Rattle.lists.proofs.Order.{Orders}
use Rattle.paper.specs.Grounds.{letter_of}
use Rattle.paper.specs.Reports.{then_by, row_before}
use Rattle.paper.specs.declared.state.Ground.{Ground}
use Rattle.paper.specs.declared.state.Ground.TheVariants.{GroundA, GroundO, GroundT, GroundW, GroundX}
use Rattle.paper.specs.declared.state.Row.{Row}

-- ---- one number, and then the rest
then_same : (a : ℕ) (p : Bool) → then_by a a p ≡ p
then_same a p = rw (le-ltb a a (omega arith), eq-eqb a a refl)

then_less : (a b : ℕ) (p : Bool) → a < b → then_by a b p ≡ true
then_less a b p h = rw (lt-ltb a b h)

-- what a comparison that holds says: the first number is less, or the same and the rest holds
data Less (a b : ℕ) (p : Bool) : Type 0 where
  first : a < b → Less a b p
  rest : a ≡ b → p ≡ true → Less a b p

less_so : (a b : ℕ) (p : Bool) → then_by a b p ≡ true → Less a b p
less_so a b p e =
    split (ltb a b)
    (λ f. first (ltb-true a b f))
    (λ f.
    let g : eqb a b && p ≡ true = rw f at e in
    let both = and_true (eqb a b) p g in
    rest (eqb-true a b both.0) both.1)

then_trans : (a b d : ℕ) (p q r : Bool) → then_by a b p ≡ true → then_by b d q ≡ true → (p ≡ true → q ≡ true → r ≡ true) → then_by a d r ≡ true
then_trans a b d p q r e f k = go (less_so a b p e) (less_so b d q f)
  where
    go : Less a b p → Less b d q → then_by a d r ≡ true
    go (first h) (first i) = then_less a d r (omega arith)
    go (first h) (rest i j) = then_less a d r (omega arith)
    go (rest h j) (first i) = then_less a d r (omega arith)
    go (rest h j) (rest i g) = rw (h ∙ i, k j g) (then_same d true)

-- neither goes before the other: the first numbers are the same, and so of the rest
then_neither : (a b : ℕ) (p q : Bool) → then_by a b p ≡ false → then_by b a q ≡ false → (a ≡ b) × (p ≡ false) × (q ≡ false)
then_neither a b p q e f =
    let g = ltb-false a b (or_false (ltb a b) (eqb a b && p) e).0 in
    let h = ltb-false b a (or_false (ltb b a) (eqb b a && q) f).0 in
    let same : a ≡ b = omega arith in
    (same, sym (then_same b p) ∙ (rw same at e), sym (then_same b q) ∙ (rw same at f))

-- ---- a ground is known by its letter
abbrev ground_by : ℕ → Ground
ground_by n =
    cond (eqb n 0x41) GroundA (cond (eqb n 0x4F) GroundO (cond (eqb n 0x54) GroundT (cond (eqb n 0x57) GroundW GroundX)))

by_letter : (g : Ground) → ground_by (letter_of g) ≡ g
by_letter GroundA = refl
by_letter GroundO = refl
by_letter GroundT = refl
by_letter GroundW = refl
by_letter GroundX = refl

same_letter : (g k : Ground) → letter_of g ≡ letter_of k → g ≡ k
same_letter g k e = sym (by_letter g) ∙ (ap ground_by e ∙ by_letter k)

-- ---- rows
abbrev row_of : ℕ → ℕ → ℕ → Ground → Row
row_of i l u g = record { initiator = i; lun = l; unit = u; ground = g }

abbrev by_ground : Row → Row → Bool
by_ground r q = ltb (letter_of r.ground) (letter_of q.ground)

abbrev by_unit : Row → Row → Bool
by_unit r q = then_by r.unit q.unit (by_ground r q)

abbrev by_lun : Row → Row → Bool
by_lun r q = then_by r.lun q.lun (by_unit r q)

pub rows_order : Orders row_before (λ r. Unit {0})
unfolding row_before
rows_order =
    record {
      irrefl =
          λ r.
          then_same r.initiator (by_lun r r)
          ∙ (then_same r.lun (by_unit r r) ∙ (then_same r.unit (by_ground r r) ∙ le-ltb (letter_of r.ground) (letter_of r.ground) (omega arith)));
      trans =
          λ r q s e f.
          then_trans r.initiator q.initiator s.initiator (by_lun r q) (by_lun q s) (by_lun r s) e f (λ g h.
          then_trans r.lun q.lun s.lun (by_unit r q) (by_unit q s) (by_unit r s) g h (λ i j.
          then_trans r.unit q.unit s.unit (by_ground r q) (by_ground q s) (by_ground r s) i j (λ k l.
          lt-ltb (letter_of r.ground) (letter_of s.ground) (omega (arith, ltb-true (letter_of r.ground) (letter_of q.ground) k, ltb-true (letter_of q.ground) (letter_of s.ground) l)))));
      total =
          λ r q x y e f.
          let a = then_neither r.initiator q.initiator (by_lun r q) (by_lun q r) e f in
          let b = then_neither r.lun q.lun (by_unit r q) (by_unit q r) a.1 a.2 in
          let d = then_neither r.unit q.unit (by_ground r q) (by_ground q r) b.1 b.2 in
          let letters : letter_of r.ground ≡ letter_of q.ground = omega (arith, ltb-false (letter_of r.ground) (letter_of q.ground) d.1, ltb-false (letter_of q.ground) (letter_of r.ground) d.2) in
          same_row r q a.0 b.0 d.0 (same_letter r.ground q.ground letters);
    }
  where
    same_row : (r q : Row) → r.initiator ≡ q.initiator → r.lun ≡ q.lun → r.unit ≡ q.unit → r.ground ≡ q.ground → r ≡ q
    same_row r q a b d e =
        let f : row_of r.initiator r.lun r.unit r.ground ≡ row_of q.initiator q.lun q.unit q.ground = rw (a, b, d, e) in f
