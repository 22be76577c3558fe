-- Runs of bytes compared: as slices, and byte by byte.
use Rattle.std.proofs.Common.{ℕ, ◌≡◌, ◌≤◌, ◌<◌, List, Bool, true, false, length, get_or, take, sym, ◌∙◌, arith}
use Rattle.std.specs.Bool.{Decides, MatchBool}
use Rattle.std.specs.List.{range_with_len, AllWithin, HoldsAt}
use Rattle.std.proofs.lemmas.List.FromFn.{length-range_with_len, get_or-range_with_len}
use mathlib.Core.Logic.{◌≢◌}
use native.Mathlib.Nat.{zero-add}
use Rattle.std.specs.Cmp.Lexicographic.{pointwise}
use Rattle.std.proofs.lemmas.Slice.Eq.{bytes_eq-Decides}
use lib.Dec.{eqb}
use Rattle.lists.specs.Bytes.{same_bytes}
use Rattle.lists.proofs.Bytes.{same_take, take_same, same_all, same_differ}
use Rattle.lists.proofs.Tests.{split, clashes}

-- two runs that have n bytes agree in them where the parts are equal
pub same_slices : (n : ℕ) (a b : List ℕ) → n ≤ length a → n ≤ length b → pointwise eqb (take n a) (take n b) ≡ same_bytes n a b
same_slices n a b h k = go (bytes_eq-Decides (take n a) (take n b))
  where
    go : Decides (pointwise eqb (take n a) (take n b)) (take n a ≡ take n b) → pointwise eqb (take n a) (take n b) ≡ same_bytes n a b
    go d = split (same_bytes n a b)
        (λ p. d.1 (same_take a b n h k p) ∙ sym p)
        (λ p. split (pointwise eqb (take n a) (take n b)) (λ q. clashes (take_same a b n (d.0 q)) p) (λ q. q ∙ sym p))

number : (n i : ℕ) → i < n → get_or (range_with_len 0 n) i 0 ≡ i
number n i h = get_or-range_with_len 0 n i 0 h ∙ zero-add i

-- byte by byte, where one of them may be shorter: all of n bytes agree, or one does not
pub same_cases : (n : ℕ) (a b : List ℕ) (r : Bool) → MatchBool r (AllWithin (λ i. get_or a i 0 ≡ get_or b i 0) (range_with_len 0 n) 0 (length (range_with_len 0 n))) ((k : ℕ) × (k < length (range_with_len 0 n)) × HoldsAt (λ i. get_or a i 0 ≢ get_or b i 0) (range_with_len 0 n) k) → r ≡ same_bytes n a b
same_cases n a b true f =
    let l : length (range_with_len 0 n) ≡ n = length-range_with_len 0 n in
    sym (same_all a b n (λ i h. rw (number n i h) at (f i 0 (omega arith) (omega arith))))
same_cases n a b false (k, h, d) =
    let l : length (range_with_len 0 n) ≡ n = length-range_with_len 0 n in
    let j : k < n = omega arith in
    sym (same_differ a b k n (rw (number n k j) at (d 0)) j)
