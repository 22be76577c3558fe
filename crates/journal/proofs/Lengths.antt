-- How far a word reaches, and how many bytes it stands for.
use Prim.Native.Nat.{ℕ, ◌*◌, ◌-◌, ◌≤◌}
use mathlib.Core.List.{List, [], ◌∷◌}
use mathlib.Core.Bool.{Bool, true, false, cond, not, ◌&&◌}
use mathlib.Core.Path.{◌≡◌, sym, ap}
use native.Mathlib.Omega.{arith}
use lib.ListN.{length, get_or, take}
use lib.Seq.{length-take-le}
use lib.Dec.{eqb}
use Rattle.journal.specs.Words.{is_space, skip_spaces, word_at, after_word, next_word, rest_of}
use Rattle.journal.specs.Kinds.{is_dash, hex_bytes, bytes_of}
use Rattle.journal.specs.Statements.{without_cr}
use Rattle.journal.proofs.Digits.{hex_length}

-- ---- a word and what is behind it are no longer than what they are read from
length_cond : (b : Bool) (x y : List ℕ) (n : ℕ) → length x ≤ n → length y ≤ n → length (cond b x y) ≤ n
length_cond true x y n h k = h
length_cond false x y n h k = k

length_skip : (s : List ℕ) → length (skip_spaces s) ≤ length s
unfolding skip_spaces
length_skip [] = omega arith
length_skip (b ∷ s) = let h = length_skip s in length_cond (is_space b) _ _ _ (omega arith) (omega arith)

length_word : (s : List ℕ) → length (word_at s) ≤ length s
unfolding word_at
length_word [] = omega arith
length_word (b ∷ s) = let h = length_word s in length_cond (is_space b) _ _ _ (omega arith) (omega arith)

length_after : (s : List ℕ) → length (after_word s) ≤ length s
unfolding after_word
length_after [] = omega arith
length_after (b ∷ s) = let h = length_after s in length_cond (is_space b) _ _ _ (omega arith) (omega arith)

pub length_next : (s : List ℕ) → length (next_word s) ≤ length s
length_next s = omega (arith, length_word (skip_spaces s), length_skip s)

pub length_rest : (s : List ℕ) → length (rest_of s) ≤ length s
length_rest s = omega (arith, length_after (skip_spaces s), length_skip s)

-- all but the last byte
pub length_shorter : (s : List ℕ) → length s - 1 ≡ length (take (length s - 1) s)
length_shorter s = sym (length-take-le (length s - 1) s (omega arith))

length_cr : (s : List ℕ) → length (without_cr s) ≤ length s
unfolding without_cr
length_cr s =
    length_cond (not (eqb (length s) 0) && eqb (get_or s (length s - 1) 0) 0x0D) (take (length s - 1) s) s (length s)
    (omega (arith, length_shorter s)) (omega arith)

module _ {t : List ℕ} (s : List ℕ) where
  pub rest_short : t ≡ rest_of s → length s ≤ 262144 → length t ≤ 262144
  rest_short e h = omega (arith, ap length e, length_rest s)

  pub cr_short : t ≡ without_cr s → length s ≤ 262144 → length t ≤ 262144
  cr_short e h = omega (arith, ap length e, length_cr s)

-- ---- two digits a byte
length_bytes : (w : List ℕ) → 2 * length (bytes_of w) ≤ length w
unfolding bytes_of
length_bytes w = both (is_dash w)
  where
    both : (b : Bool) → 2 * length (cond b [] (hex_bytes w)) ≤ length w
    both true = omega arith
    both false = omega (arith, hex_length w)

module _ (s : List ℕ) (h : length s ≤ 262144) where
  pub bytes_fit : length (bytes_of (next_word s)) ≤ 131072
  bytes_fit = omega (arith, length_bytes (next_word s), length_next s)

  pub next_fit : length (bytes_of (next_word (rest_of s))) ≤ 131072
  next_fit = omega (arith, length_bytes (next_word (rest_of s)), length_next (rest_of s), length_rest s)
