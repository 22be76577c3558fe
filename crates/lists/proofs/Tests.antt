-- Tests taken apart: a split that keeps the test's value, what `||` and `&&` tell of their parts, and what cannot be.
use mathlib.Core.Path.{◌≡◌, refl, sym, ◌∙◌}
use mathlib.Core.Bool.{Bool, true, false, cond, ◌&&◌, ◌||◌, true≢false}
use Rattle.std.specs.Prelude.{Option, Some, None}
use mathlib.Core.Logic.{◌⊎◌, inl, inr}
use Prim.Native.Nat.{ℕ}
use native.Mathlib.Omega.{arith}
use lib.Dec.{eqb}
use borrow.Author.Tests.{eqb-true, eq-eqb}

pub split : (b : Bool) {P : Type 0} → (b ≡ true → P) → (b ≡ false → P) → P
split true f g = f refl
split false f g = g refl

-- what holds of both results of a test
pub both : {A : Type 0} (P : A → Type 0) (b : Bool) {x y : A} → P x → P y → P (cond b x y)
both P true p q = p
both P false p q = q

pub clashes : {P : Type 0} {b : Bool} → b ≡ true → b ≡ false → P
clashes p q = absurd (true≢false (sym p ∙ q))

pub none_not_some : {A : Type 0} {x : A} → ◌≡◌ {A = Option A} None (Some x) → ⊥
none_not_some e = let z : ◌≡◌ {A = ℕ} 0 1 = cc in omega arith

-- ---- what a test says of its parts
pub and_true : (a b : Bool) → a && b ≡ true → (a ≡ true) × (b ≡ true)
and_true true b e = (refl, e)
and_true false b e = clashes e refl

pub and_false : (a b : Bool) → a && b ≡ false → (a ≡ false) ⊎ (b ≡ false)
and_false true b e = inr e
and_false false b e = inl refl

pub or_false : (a b : Bool) → a || b ≡ false → (a ≡ false) × (b ≡ false)
or_false true b e = clashes refl e
or_false false b e = (refl, e)

pub or_true : (a b : Bool) → a || b ≡ true → (a ≡ true) ⊎ (b ≡ true)
or_true true b e = inl refl
or_true false b e = inr e

-- ---- two tests that hold for the same reason are equal
pub same_test : {a b : Bool} → (a ≡ true → b ≡ true) → (b ≡ true → a ≡ true) → a ≡ b
same_test {a} {b} f g = split a (λ p. p ∙ sym (f p)) (λ p. split b (λ q. clashes (g q) p) (λ q. p ∙ sym q))

pub eqb_sym : (a b : ℕ) → eqb a b ≡ eqb b a
eqb_sym a b = same_test (λ e. eq-eqb b a (sym (eqb-true a b e))) (λ e. eq-eqb a b (sym (eqb-true b a e)))
