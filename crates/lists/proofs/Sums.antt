-- How many elements the lists that elements give have together.
use Prim.Native.Nat.{ℕ, zero, suc, ◌+◌, ◌*◌, ◌≤◌, ◌<◌}
use mathlib.Core.Path.{◌≡◌, refl, ◌∙◌}
use mathlib.Core.List.{List, [], ◌∷◌, ◌++◌}
use mathlib.Core.Bool.{Bool, cond}
use native.Mathlib.Omega.{arith}
use native.Mathlib.Nat.{mul-suc}
use lib.ListN.{length, length-append}
use lib.Dec.{eqb}
use borrow.Author.Tests.{eqb-true, ne_eqb}
use Rattle.lists.specs.Lists.{◌∈◌, here, there, keep, gather, count}
use Rattle.lists.specs.Order.{insert, sort}
use Rattle.lists.proofs.Tests.{split}

pub gather_both : {A B : Type 0} (f g : A → List B) (l : List A) → length (gather (λ x. f x ++ g x) l) ≡ length (gather f l) + length (gather g l)
gather_both f g [] = refl
gather_both f g (x ∷ l) = simp length-append (omega (arith, gather_both f g l))

-- at most m more for each than another gives
pub gather_over : {A B C : Type 0} (f : A → List B) (g : A → List C) (m : ℕ) (l : List A) → ((x : A) → x ∈ l → length (f x) ≤ m + length (g x)) → length (gather f l) ≤ m * length l + length (gather g l)
gather_over f g m [] h = omega arith
gather_over f g m (x ∷ l) h =
    simp length-append (omega (arith, h x (here refl), gather_over f g m l (λ y k. h y (there k)), mul-suc m (length l)))

gather_none : {A : Type 0} (B : Type 0) (l : List A) → length (gather {A = A} {B = B} (λ x. []) l) ≡ 0
gather_none B [] = refl
gather_none B (x ∷ l) = gather_none B l

module _ {A B : Type 0} (f : A → List B) where
  -- at most m for each
  pub gather_most : (m : ℕ) (l : List A) → ((x : A) → x ∈ l → length (f x) ≤ m) → length (gather f l) ≤ m * length l
  gather_most m l h =
      omega (arith, gather_over {C = B} f (λ x. []) m l (λ x k. omega (arith, h x k)), gather_none B l)

  -- the order is no matter
  gather_insert : (before : A → A → Bool) (x : A) (l : List A) → length (gather f (insert before x l)) ≡ length (f x) + length (gather f l)
  unfolding insert
  gather_insert before x [] = simp length-append
  gather_insert before x (y ∷ l) =
      split (before y x)
      (λ e. rw e (simp length-append (omega (arith, gather_insert before x l))))
      (λ e. rw e (simp length-append))

  pub gather_sort : (before : A → A → Bool) (l : List A) → length (gather f (sort before l)) ≡ length (gather f l)
  unfolding sort
  gather_sort before [] = refl
  gather_sort before (x ∷ l) =
      gather_insert before x (sort before l) ∙ simp length-append (omega (arith, gather_sort before l))

-- ---- elements shared out by a number: together no more than there are
one_none : {B : Type 0} (x : B) (a k n : ℕ) → a < k → length (gather (λ i. cond (eqb a i) (x ∷ []) []) (count k n)) ≡ 0
unfolding count
one_none x a k zero h = refl
one_none x a k (suc n) h =
    let d : a ≡ k → ⊥ = λ e. omega arith in
    rw (ne_eqb a k d) (one_none x a (suc k) n (omega arith))

one_most : {B : Type 0} (x : B) (a k n : ℕ) → length (gather (λ i. cond (eqb a i) (x ∷ []) []) (count k n)) ≤ 1
unfolding count
one_most x a k zero = omega arith
one_most x a k (suc n) =
    split (eqb a k)
    (λ e. rw e (omega (arith, one_none x a (suc k) n (omega (arith, eqb-true a k e)))))
    (λ e. rw e (one_most x a (suc k) n))

module _ {B : Type 0} (share : B → ℕ) where
  pub shared_out : (k n : ℕ) (l : List B) → length (gather (λ i. keep (λ x. eqb (share x) i) l) (count k n)) ≤ length l
  shared_out k n [] = omega (arith, gather_none B (count k n))
  shared_out k n (x ∷ l) =
      omega (
        arith,
        one_most x (share x) k n,
        shared_out k n l,
        gather_both (λ i. cond (eqb (share x) i) (x ∷ []) []) (λ i. keep (λ y. eqb (share y) i) l) (count k n),
        gather_over (λ i. keep (λ y. eqb (share y) i) (x ∷ l)) (λ i. cond (eqb (share x) i) (x ∷ []) [] ++ keep (λ y. eqb (share y) i) l) 0 (count k n) (λ i h. at i),
      )
    where
      at : (i : ℕ) → length (keep (λ y. eqb (share y) i) (x ∷ l)) ≤ 0 + length (cond (eqb (share x) i) (x ∷ []) [] ++ keep (λ y. eqb (share y) i) l)
      at i = split (eqb (share x) i) (λ e. rw e (omega arith)) (λ e. rw e (omega arith))
