-- LUNs: one of the form 00h, nn is known by its head, and the LUNs of two heads are the same if the heads are.
use Prim.Native.Nat.{ℕ, ◌%◌, ◌<◌}
use mathlib.Core.Path.{◌≡◌, refl, ap, sym, ◌∙◌}
use mathlib.Core.List.{List, [], ◌∷◌, map}
use mathlib.Core.Bool.{true}
use native.Mathlib.Omega.{arith}
use native.Mathlib.Nat.{mul-div_cancel}
use lib.Dec.{eqb, ltb}
use borrow.Author.Tests.{eqb-true, eq-eqb, ltb-true, lt-ltb}
use Rattle.lists.specs.Lists.{all}
use Rattle.lists.proofs.Tests.{and_true, same_test}
use Rattle.wire.specs.Lun.{lun_of, head_of, lun_form}
use Rattle.paper.specs.Standing.{lun_formed}

pub head_back : (h : ℕ) → head_of (lun_of h) ≡ h
head_back h = mul-div_cancel h (omega arith)

pub same_lun : (x y : ℕ) → eqb (lun_of x) (lun_of y) ≡ eqb x y
same_lun x y =
    same_test
    (λ e. let q = eqb-true (lun_of x) (lun_of y) e in eq-eqb x y (omega arith))
    (λ e. let q = eqb-true x y e in eq-eqb (lun_of x) (lun_of y) (omega arith))

-- ---- a LUN of the form
pub lun_whole : (l : ℕ) → lun_form l ≡ true → lun_of (head_of l) ≡ l
lun_whole l h =
    let z : l % 281474976710656 ≡ 0 = eqb-true _ _ (and_true (eqb (l % 281474976710656) 0) _ h).0 in
    omega arith

-- so a head is its head where it makes the LUN
pub head_is : (l : ℕ) → lun_form l ≡ true → (x : ℕ) → eqb x (head_of l) ≡ eqb (lun_of x) l
head_is l h x = sym (same_lun x (head_of l)) ∙ ap (eqb (lun_of x)) (lun_whole l h)

pub luns_whole : (l : List ℕ) → all lun_form l ≡ true → map lun_of (map head_of l) ≡ l
luns_whole [] h = refl
luns_whole (x ∷ l) h = let p = and_true (lun_form x) _ h in rw (lun_whole x p.0, luns_whole l p.1)

-- its head is one byte
pub formed_small : (h : ℕ) → lun_formed h ≡ true → h < 256
formed_small h e =
    let small = ltb-true (head_of (lun_of h)) 256 (and_true (eqb (lun_of h % 281474976710656) 0) (ltb (head_of (lun_of h)) 256) e).1 in
    rw head_back at small

pub small_formed : (h : ℕ) → h < 256 → lun_formed h ≡ true
small_formed h l =
    let z : lun_of h % 281474976710656 ≡ 0 = omega arith in
    rw (eq-eqb _ _ z, head_back h, lt-ltb h 256 l)
