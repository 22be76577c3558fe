-- A byte that names one of two: 0 the first, 1 the second.
use Prim.Native.Nat.{ℕ, zero, suc}
use mathlib.Core.Path.{◌≡◌}
use mathlib.Core.Bool.{true}
use native.Mathlib.Omega.{arith}
use borrow.Author.Tests.{eq-eqb, ne_eqb, leb-true}
use Rattle.shelf.specs.Crossing.{names_one, one_of}

module _ {A : Type 0} (x y : A) where
  -- the two ends of the test, as the code has it
  pub names_first : (b : ℕ) → b ≡ 0 → x ≡ one_of x y b
  names_first b h = rw (eq-eqb b 0 h)

  pub names_second : (b : ℕ) → (b ≡ 0 → ⊥) → y ≡ one_of x y b
  names_second b h = rw (ne_eqb b 0 h)

  -- in and out again
  pub out_of_one : (byte : A → ℕ) → byte x ≡ 0 → byte y ≡ 1 → (b : ℕ) → names_one b ≡ true → byte (one_of x y b) ≡ b
  out_of_one byte p q zero h = p
  out_of_one byte p q (suc zero) h = q
  out_of_one byte p q (suc (suc b)) h = absurd (omega (arith, leb-true (suc (suc b)) 1 h))

-- out and in again
pub record Crosses {A : Type 0} (of : ℕ → A) (byte : A → ℕ) (x : A) : Type 0 where
  pub same : of (byte x) ≡ x
  pub named : names_one (byte x) ≡ true
