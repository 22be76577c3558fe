-- Laws of the words of a line: the run of spaces at its start, and the run of other bytes.
use Rattle.std.proofs.Common.{◌≡◌, ℕ, ◌≤◌, ◌+◌, List, [], ◌∷◌, length, take, drop, get_or, refl, sym, ap, ◌∙◌, arith}
use Rattle.std.specs.Prelude.{suc, ltb, Option, Some, None, Bool, not, ◌<◌}
use Rattle.std.specs.List.{take_while, prefix_len, position, position_or_len}
use Rattle.lists.specs.Lists.{place_of}
use borrow.Author.Tests.{ltb-true, ltb-false}
use native.Mathlib.Numerals.{add-one}
use lib.Seq.{drop-cons, length-take-le}
use Rattle.lists.proofs.Tests.{split, none_not_some}
use Rattle.journal.specs.Words.{is_space, skip_spaces, word_at, after_word}

-- ---- what is left: a byte and the rest
pub next_byte : (s : List ℕ) (k : ℕ) → k < length s → drop k s ≡ get_or s k 0 ∷ drop (k + 1) s
next_byte s k h = rw (add-one, drop-cons s k 0)

-- ---- the length of the run of bytes that pass
one_add : (n : ℕ) → 1 + n ≡ suc n
one_add n = omega arith

prefix_fits : (p : ℕ → Bool) (s : List ℕ) → prefix_len p s ≤ length s
prefix_fits p [] = omega arith
prefix_fits p (b ∷ s) = split (p b) (λ e. rw e (omega (arith, prefix_fits p s))) (λ e. rw e (omega arith))

run_length : (p : ℕ → Bool) (s : List ℕ) → length (take_while p s) ≡ prefix_len p s
run_length p s = length-take-le (prefix_len p s) s (prefix_fits p s)

-- ---- the place of the first byte that passes, as std's word has it
module _ (p : ℕ → Bool) where
  place_or : (s : List ℕ) → position_or_len p s ≡ place_of p s
  unfolding place_of
  place_or [] = refl
  place_or (b ∷ s) = split (p b) (λ e. rw e) (λ e. rw (e, place_or s) (one_add _))

  pub position_none : (s : List ℕ) → position p s ≡ None → length s ≤ place_of p s
  position_none s h =
      split
      (ltb (place_of p s) (length s))
      (λ t. absurd (none_not_some (sym (rw (place_or s, t) at h))))
      (λ t. ltb-false (place_of p s) (length s) t)

  pub position_some : (s : List ℕ) {k : ℕ} → position p s ≡ Some k → (place_of p s ≡ k) × (place_of p s < length s)
  position_some s {k} h =
      split
      (ltb (place_of p s) (length s))
      (λ t. let e : ◌≡◌ {A = Option ℕ} (Some (place_of p s)) (Some k) = rw (place_or s, t) at h in (cc, ltb-true (place_of p s) (length s) t))
      (λ t. absurd (none_not_some (rw (place_or s, t) at h)))

-- ---- spaces
skips : (s : List ℕ) → drop (prefix_len is_space s) s ≡ skip_spaces s
unfolding skip_spaces
skips [] = refl
skips (b ∷ s) = split (is_space b) (λ e. rw (e, one_add) (skips s)) (λ e. rw e)

pub spaces_fit : (s : List ℕ) {n : ℕ} → n ≡ length (take_while is_space s) → n ≤ length s
spaces_fit s e = omega (arith, e ∙ run_length is_space s, prefix_fits is_space s)

pub spaces_passed : (s : List ℕ) {n : ℕ} → n ≡ length (take_while is_space s) → drop n s ≡ skip_spaces s
spaces_passed s e = ap (λ n. drop n s) (e ∙ run_length is_space s) ∙ skips s

-- ---- the bytes of a word
abbrev in_word : ℕ → Bool
in_word b = not (is_space b)

takes : (s : List ℕ) → take (prefix_len in_word s) s ≡ word_at s
unfolding word_at
takes [] = refl
takes (b ∷ s) = split (is_space b) (λ e. rw e) (λ e. rw (e, one_add) (ap (λ l. b ∷ l) (takes s)))

leaves : (s : List ℕ) → drop (prefix_len in_word s) s ≡ after_word s
unfolding after_word
leaves [] = refl
leaves (b ∷ s) = split (is_space b) (λ e. rw e) (λ e. rw (e, one_add) (leaves s))

module _ (s : List ℕ) {n : ℕ} (e : n ≡ length (take_while in_word s)) where
  pub word_fits : n ≤ length s
  word_fits = omega (arith, e ∙ run_length in_word s, prefix_fits in_word s)

  pub word_taken : take n s ≡ word_at s
  word_taken = ap (λ n. take n s) (e ∙ run_length in_word s) ∙ takes s

  pub word_passed : drop n s ≡ after_word s
  word_passed = ap (λ n. drop n s) (e ∙ run_length in_word s) ∙ leaves s
