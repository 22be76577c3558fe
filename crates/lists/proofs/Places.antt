-- Lists by their places: the places below a number, one turn of a loop over what is left, early returns.
use Prim.Native.Nat.{ℕ, suc, ◌+◌, ◌-◌, ◌≤◌, ◌<◌}
use mathlib.Core.Path.{◌≡◌, refl, sym, ◌∙◌}
use mathlib.Core.List.{List, [], ◌∷◌}
use mathlib.Core.Bool.{Bool, true, false, not, ◌&&◌}
use native.Mathlib.Omega.{arith}
use native.Mathlib.Numerals.{add-one}
use native.Mathlib.Nat.{sub-zero}
use Rattle.lists.specs.Lists.{any, all, pairs, count, below}
use Rattle.lists.proofs.Tests.{split, clashes}
use borrow.Author.Tests.{not-true}
use Rattle.lists.proofs.Members.{any_same}

-- ---- the places from i on below n: one and the rest, or none
abbrev pub between : ℕ → ℕ → List ℕ
between i n = count i (n - i)

pub between_cons : (i n : ℕ) → i < n → between i n ≡ i ∷ between (i + 1) n
unfolding count
between_cons i n h =
    let e : n - i ≡ suc (n - (i + 1)) = omega arith in rw (e, add-one)

pub between_nil : (i n : ℕ) → n ≤ i → between i n ≡ []
unfolding count
between_nil i n h = let e : n - i ≡ 0 = omega arith in rw e

pub below_between : (n : ℕ) → below n ≡ between 0 n
below_between n = rw (sub-zero n)

-- ---- a test of two elements
pub both : {A B : Type 0} (f : A → A → B) {x y z w : A} → x ≡ z → y ≡ w → f x y ≡ f z w
both f p q = rw (p, q)

-- ---- one turn of a loop over what is left: the test's answer b at the first element decides, or leaves it to the rest
module _ {A : Type 0} (p : A → Bool) {l r : List A} {x : A} {b : Bool} (e : l ≡ x ∷ r) (t : b ≡ p x) where
  pub all_step : b ≡ true → all p l ≡ all p r
  all_step h = rw (e, ← t, h)

  pub all_stop : b ≡ false → all p l ≡ false
  all_stop h = rw (e, ← t, h)

  pub any_step : b ≡ false → any p l ≡ any p r
  any_step h = rw (e, ← t, h)

  pub any_stop : b ≡ true → any p l ≡ true
  any_stop h = rw (e, ← t, h)

module _ {A : Type 0} (f : A → A → Bool) {l r : List A} {x : A} {b : Bool} (e : l ≡ x ∷ r) (t : b ≡ any (f x) r) where
  pub pairs_step : b ≡ false → pairs f l ≡ pairs f r
  unfolding pairs
  pairs_step h = rw (e, ← t, h)

  pub pairs_stop : b ≡ true → pairs f l ≡ true
  unfolding pairs
  pairs_stop h = rw (e, ← t, h)

module _ {A : Type 0} {l : List A} (e : l ≡ []) where
  pub all_end : (p : A → Bool) → all p l ≡ true
  all_end p = rw e

  pub any_end : (p : A → Bool) → any p l ≡ false
  any_end p = rw e

  pub pairs_end : (f : A → A → Bool) → pairs f l ≡ false
  unfolding pairs
  pairs_end f = rw e

-- ---- tests that agree
pub pairs_same : {A : Type 0} (f g : A → A → Bool) → ((x y : A) → f x y ≡ g x y) → (l : List A) → pairs f l ≡ pairs g l
unfolding pairs
pairs_same f g h [] = refl
pairs_same f g h (x ∷ l) = rw (any_same (f x) (g x) l (λ y k. h x y), pairs_same f g h l)

-- ---- an early return: the first of two tests answers r, and fails, or leaves it to the second
pub and_no : {a r : Bool} (b : Bool) → r ≡ a → r ≡ false → false ≡ a && b
and_no b e h = rw (← e, h)

pub and_yes : {a b r s : Bool} → r ≡ a → r ≡ true → s ≡ b → s ≡ a && b
and_yes e h t = rw (← e, h) t

-- a test that answers r is needed for b, and fails
pub refused : {a r : Bool} (b : Bool) → (b ≡ true → a ≡ true) → r ≡ a → not r ≡ true → false ≡ b
refused {r = r} b f e h = split b (λ t. clashes (f t) (sym e ∙ not-true r h)) sym
