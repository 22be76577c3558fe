-- Laws of texts: bytes in hex; a number in decimal, digit by digit.
use Prim.Native.Nat.{ℕ, zero, suc, ◌+◌, ◌/◌, ◌%◌, ◌^◌, ◌≤◌, ◌<◌}
use mathlib.Core.Path.{◌≡◌, ap, sym, ◌∙◌}
use mathlib.Core.List.{List, [], ◌∷◌, ◌++◌}
use native.Mathlib.Omega.{arith}
use native.Mathlib.Nat.{pow-suc}
use borrow.Author.Tests.{lt-ltb, le-ltb, ltb-true, ltb-false, ne_eqb}
use lib.Dec.{eqb, ltb}
use mathlib.Core.Bool.{Bool, true, false}
use Rattle.lists.proofs.Tests.{split}
use Rattle.journal.proofs.Told.{digits_most}
use lib.ListN.{length}
use Rattle.journal.specs.Texts.{digits_up_to, decimal_text, byte_text, hex_text, bytes_text}

-- ---- bytes in hex
pub hex_more : {s t : List ℕ} {b : ℕ} → s ≡ b ∷ t → hex_text s ≡ byte_text b ++ hex_text t
unfolding hex_text
hex_more e = rw e

pub hex_end : {s : List ℕ} → s ≡ [] → hex_text s ≡ []
unfolding hex_text
hex_end e = rw e

-- by the code's test
module _ (s : List ℕ) {empty : Bool} (e : empty ≡ eqb (length s) 0) where
  pub text_none : empty ≡ true → bytes_text s ≡ 0x2D ∷ []
  unfolding bytes_text
  text_none z = rw (sym e ∙ z)

  pub text_so : empty ≡ false → bytes_text s ≡ hex_text s
  unfolding bytes_text
  text_so z = rw (sym e ∙ z)

pub text_some : (s : List ℕ) → (length s ≡ 0 → ⊥) → bytes_text s ≡ hex_text s
unfolding bytes_text
text_some s z = rw (ne_eqb (length s) 0 z)

-- ---- numbers in decimal

digits_more : (k n : ℕ) → 10 ≤ n → digits_up_to (suc k) n ≡ digits_up_to k (n / 10) ++ ((0x30 + n % 10) ∷ [])
unfolding digits_up_to
digits_more k n h = rw (le-ltb n 10 h)

digits_last : (k n : ℕ) → n < 10 → digits_up_to (suc k) n ≡ (0x30 + n) ∷ []
unfolding digits_up_to
digits_last k n h = rw (lt-ltb n 10 h)

-- places that a number does not need change nothing
digits_enough : (k n : ℕ) → n < 10 ^ suc k → digits_up_to (suc (suc k)) n ≡ digits_up_to (suc k) n
digits_enough zero n h = digits_last 1 n (omega arith) ∙ sym (digits_last 0 n (omega arith))
digits_enough (suc k) n h =
    split
    (ltb n 10)
    (λ t. let u = ltb-true n 10 t in digits_last (suc (suc k)) n u ∙ sym (digits_last (suc k) n u))
    (λ t.
    let u = ltb-false n 10 t in
    digits_more (suc (suc k)) n u ∙ (ap (λ l. l ++ ((0x30 + n % 10) ∷ [])) (digits_enough k (n / 10) (omega (arith, pow-suc 10 (suc k)))) ∙ sym (digits_more (suc k) n u)))

pub decimal_one : (n : ℕ) → n < 10 → decimal_text n ≡ (0x30 + n % 10) ∷ []
decimal_one n h = let e : n % 10 ≡ n = omega arith in rw e (digits_last 19 n h)

-- a number of two digits or more: those of the tenth, which are one fewer, and the last
module _ (n : ℕ) (h : 10 ≤ n) (small : n < 18446744073709551616) where
  tenth : decimal_text (n / 10) ≡ digits_up_to 19 (n / 10)
  tenth = digits_enough 18 (n / 10) (omega arith)

  pub decimal_more : decimal_text n ≡ decimal_text (n / 10) ++ ((0x30 + n % 10) ∷ [])
  decimal_more = digits_more 19 n h ∙ ap (λ l. l ++ ((0x30 + n % 10) ∷ [])) (sym tenth)

  pub decimal_room : length (decimal_text (n / 10)) ≤ 19
  decimal_room = omega (arith, ap length tenth, digits_most 19 (n / 10))
