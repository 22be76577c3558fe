-- Laws of the kinds of words: ranges of bytes, hex digits and the bytes that pairs of them make, decimal numbers.
use Prim.Native.Nat.{ℕ, zero, suc, ◌+◌, ◌-◌, ◌*◌, ◌/◌, ◌%◌, ◌≤◌, ◌<◌}
use mathlib.Core.Path.{◌≡◌, refl, ap, sym, ◌∙◌}
use mathlib.Core.List.{List, [], ◌∷◌}
use mathlib.Core.Bool.{Bool, true, false, not, ◌&&◌}
use native.Mathlib.Omega.{arith}
use native.Mathlib.Numerals.{add-one}
use borrow.Author.Tests.{lt-ltb, leb-true, ltb-true, eqb-true, le-leb, le-ltb, eq-eqb, ne_eqb}
use lib.ListN.{length, take, drop, get_or, set}
use lib.Seq.{take-suc, take-suc-set, take_all}
use lib.Dec.{leb, ltb, eqb}
use mathlib.Core.Logic.{inl, inr}
use Rattle.std.specs.Prelude.{MatchBool}
use Rattle.std.specs.Int.{from_be_bytes}
use mir.Syntax.{w64}
use Rattle.std.specs.Char.{IsAsciiHexdigit, IsNotAsciiHexdigit}
use Rattle.lists.specs.Lists.{all}
use Rattle.lists.specs.Bytes.{be}
use Rattle.lists.proofs.Bytes.{be_take}
use Rattle.lists.proofs.Tests.{split, and_true, clashes}
use Rattle.journal.proofs.Runs.{next_byte}
use Rattle.journal.specs.Kinds.{is_digit, hex_value, is_hex, is_dash, is_bytes, hex_bytes, bytes_of, decimal_from, decimal_of, is_digits, digits_of}

-- ---- a byte in a range, or in none
pub in_range : (lo hi b : ℕ) → lo ≤ b → b ≤ hi → leb lo b && leb b hi ≡ true
in_range lo hi b p q = rw (le-leb lo b p, le-leb b hi q)

pub out_of : (lo hi b : ℕ) → (lo ≤ b → b ≤ hi → ⊥) → leb lo b && leb b hi ≡ false
out_of lo hi b f =
    split
    (leb lo b && leb b hi)
    (λ e. let r = and_true (leb lo b) (leb b hi) e in absurd (f (leb-true lo b r.0) (leb-true b hi r.1)))
    (λ e. e)

-- ---- the value of a hex digit
module _ (b : ℕ) where
  pub hex_decimal : 0x30 ≤ b → b ≤ 0x39 → hex_value b ≡ b - 0x30
  unfolding hex_value
  hex_decimal p q = rw (in_range 0x30 0x39 b p q)

  pub hex_lower : 0x61 ≤ b → b ≤ 0x66 → hex_value b ≡ b - 0x57
  unfolding hex_value
  hex_lower p q = rw (out_of 0x30 0x39 b (λ x y. omega arith), in_range 0x61 0x66 b p q)

  pub hex_upper : 0x41 ≤ b → b ≤ 0x46 → hex_value b ≡ b - 0x37
  unfolding hex_value
  hex_upper p q =
      rw (out_of 0x30 0x39 b (λ x y. omega arith), out_of 0x61 0x66 b (λ x y. omega arith), in_range 0x41 0x46 b p q)

  pub hex_none : (0x30 ≤ b → b ≤ 0x39 → ⊥) → (0x41 ≤ b → b ≤ 0x46 → ⊥) → (0x61 ≤ b → b ≤ 0x66 → ⊥) → hex_value b ≡ 16
  unfolding hex_value
  hex_none p q r = rw (out_of 0x30 0x39 b p, out_of 0x61 0x66 b r, out_of 0x41 0x46 b q)

  -- a hex digit that is in neither of the first two ranges is in the last
  pub hex_else : is_hex b ≡ true → (0x30 ≤ b → b ≤ 0x39 → ⊥) → (0x61 ≤ b → b ≤ 0x66 → ⊥) → (0x41 ≤ b) × (b ≤ 0x46)
  hex_else h p r =
      split
      (leb 0x41 b && leb b 0x46)
      (λ e. let t = and_true (leb 0x41 b) (leb b 0x46) e in (leb-true 0x41 b t.0, leb-true b 0x46 t.1))
      (λ e. absurd (omega (arith, ltb-true (hex_value b) 16 h, hex_none p (λ x y. clashes (in_range 0x41 0x46 b x y) e) r)))

-- std's test of a hex digit is this one
pub hex_cases : (b : ℕ) (r : Bool) → MatchBool r (IsAsciiHexdigit b) (IsNotAsciiHexdigit b) → r ≡ is_hex b
hex_cases b true (inl (inl p)) = sym (lt-ltb (hex_value b) 16 (omega (arith, hex_decimal b (omega arith) (omega arith))))
hex_cases b true (inl (inr p)) = sym (lt-ltb (hex_value b) 16 (omega (arith, hex_upper b (omega arith) (omega arith))))
hex_cases b true (inr p) = sym (lt-ltb (hex_value b) 16 (omega (arith, hex_lower b (omega arith) (omega arith))))
hex_cases b false p = sym (le-ltb (hex_value b) 16 (omega (arith, hex_none b (λ x y. omega arith) (λ x y. omega arith) (λ x y. omega arith))))

-- ---- pairs of digits
pub hex_length : (w : List ℕ) → length (hex_bytes w) ≡ length w / 2
unfolding hex_bytes
hex_length [] = omega arith
hex_length (a ∷ []) = omega arith
hex_length (a ∷ (b ∷ s)) = omega (arith, hex_length s)

pub hex_at : (w : List ℕ) (k : ℕ) → k < length w / 2 → get_or (hex_bytes w) k 0 ≡ hex_value (get_or w (2 * k) 0) * 16 + hex_value (get_or w (2 * k + 1) 0)
unfolding hex_bytes
hex_at [] k h = absurd (omega arith)
hex_at (a ∷ []) k h = absurd (omega arith)
hex_at (a ∷ (b ∷ s)) zero h = refl
hex_at (a ∷ (b ∷ s)) (suc k) h =
    let e : 2 * suc k ≡ suc (suc (2 * k)) = omega arith in
    let f : suc (suc (2 * k)) + 1 ≡ suc (suc (2 * k + 1)) = omega arith in
    rw (e, f) (hex_at s k (omega arith))

-- ---- every byte passes, so that at a place does
pub all_at : (p : ℕ → Bool) (l : List ℕ) (i : ℕ) → all p l ≡ true → i < length l → p (get_or l i 0) ≡ true
all_at p [] i e h = absurd (omega arith)
all_at p (x ∷ l) zero e h = (and_true (p x) (all p l) e).0
all_at p (x ∷ l) (suc i) e h = all_at p l i (and_true (p x) (all p l) e).1 (omega arith)

-- the two digits of a pair are in the word
module _ (w : List ℕ) (hex : all is_hex w ≡ true) (k : ℕ) (h : k < length (hex_bytes w)) where
  pub pair_room : 2 * k + 1 < length w
  pair_room = omega (arith, hex_length w)

-- one more byte of a run, stored behind those that stand there already
pub store_more : (xs to : List ℕ) (k : ℕ) {v : ℕ} → take k to ≡ take k xs → v ≡ get_or xs k 0 → k < length to → k < length xs → take (k + 1) (set to k v) ≡ take (k + 1) xs
store_more xs to k {v} e f h g = rw (add-one, take-suc-set to k v h, take-suc xs k 0 g, e, f)

pub store_end : (xs to : List ℕ) (n k : ℕ) → n ≡ length xs → n ≤ k → k ≤ n → take k to ≡ take k xs → (n ≡ length xs) × (take n to ≡ xs)
store_end xs to n k e h g t =
    let q : k ≡ n = omega arith in (e, rw q at t ∙ take_all n xs (omega arith))

-- ---- bytes: the tests, where they are passed
module _ (w : List ℕ) {dash : Bool} (e : dash ≡ is_dash w) where
  module _ (d : dash ≡ false) where
    pub bytes_pairs : bytes_of w ≡ hex_bytes w
    unfolding bytes_of
    bytes_pairs = rw (← e, d)

    pub bytes_even : (length w ≡ 0 → ⊥) → length w % 2 ≡ 0 → {r : Bool} → r ≡ all is_hex w → r ≡ is_bytes w
    unfolding is_bytes
    bytes_even z o t = rw (← e, d, ne_eqb (length w) 0 z, eq-eqb (length w % 2) 0 o) t

    pub bytes_hex : is_bytes w ≡ true → all is_hex w ≡ true
    unfolding is_bytes
    bytes_hex t =
        let r = and_true (not (eqb (length w) 0)) (eqb (length w % 2) 0 && all is_hex w) (rw (← e, d) at t) in
        (and_true (eqb (length w % 2) 0) (all is_hex w) r.1).1

-- ---- sixteen digits
pub digits_long : (w : List ℕ) → length w ≡ 16 → {r : Bool} → r ≡ all is_hex w → r ≡ is_digits w
unfolding is_digits
digits_long w z t = rw (eq-eqb (length w) 16 z) t

pub digits_given : (w : List ℕ) → is_digits w ≡ true → (length w ≡ 16) × (all is_hex w ≡ true)
unfolding is_digits
digits_given w t = let r = and_true (eqb (length w) 16) (all is_hex w) t in (eqb-true (length w) 16 r.0, r.1)

pub be_std : (s : List ℕ) → from_be_bytes w64 s ≡ be 8 s 0
unfolding be
be_std s = omega arith

pub digits_read : (w s : List ℕ) (n : ℕ) → is_digits w ≡ true → n ≡ length (hex_bytes w) → take n s ≡ hex_bytes w → be 8 s 0 ≡ digits_of w
unfolding digits_of
digits_read w s n t l e =
    let q : n ≡ 8 = omega (arith, hex_length w, (digits_given w t).0) in
    sym (be_take 8 s 0 8 (omega arith)) ∙ ap (λ b. be 8 b 0) (rw q at e)

-- ---- decimal numbers: a digit more, which never makes the number less
pub decimal_step : {s t : List ℕ} {b : ℕ} (n : ℕ) → s ≡ b ∷ t → decimal_from n s ≡ decimal_from (n * 10 + (b - 0x30)) t
unfolding decimal_from
decimal_step n e = rw e

pub decimal_end : {s : List ℕ} (n : ℕ) → s ≡ [] → decimal_from n s ≡ n
unfolding decimal_from
decimal_end n e = rw e

decimal_grows : (n : ℕ) (s : List ℕ) → n ≤ decimal_from n s
unfolding decimal_from
decimal_grows n [] = omega arith
decimal_grows n (b ∷ s) = omega (arith, decimal_grows (n * 10 + (b - 0x30)) s)

pub too_large : (w : List ℕ) (n k : ℕ) → decimal_of w ≡ decimal_from n (drop k w) → k < length w → 18446744073709551616 ≤ n * 10 + (get_or w k 0 - 0x30) → ltb (decimal_of w) 18446744073709551616 ≡ false
too_large w n k e h g =
    le-ltb (decimal_of w) 18446744073709551616 (omega (arith, e, decimal_step n (next_byte w k h), decimal_grows (n * 10 + (get_or w k 0 - 0x30)) (drop (k + 1) w)))

pub digit_range : (b : ℕ) → is_digit b ≡ true → (0x30 ≤ b) × (b ≤ 0x39)
digit_range b e = let r = and_true (leb 0x30 b) (leb b 0x39) e in (leb-true 0x30 b r.0, leb-true b 0x39 r.1)
