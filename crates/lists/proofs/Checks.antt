-- Loops that check what a table has in use: each entry, each two entries, or whether there is one that passes. What is left decides.
use Prim.Native.Nat.{ℕ, zero, suc, ◌+◌, ◌*◌, ◌≤◌, ◌<◌, min}
use mathlib.Core.Path.{◌≡◌, refl, ap, sym, ◌∙◌}
use mathlib.Core.List.{List, [], ◌∷◌}
use mathlib.Core.Bool.{Bool, true, false, not}
use native.Mathlib.Omega.{arith}
use native.Mathlib.Nat.{mul-zero, mul-suc}
use borrow.Author.Tests.{not-true, not-false}
use lib.ListN.{length, take, drop, get_or, length-drop}
use lib.Seq.{take-nil, drop-nil}
use Rattle.lists.specs.Lists.{any, all, pairs, parts}
use Rattle.lists.proofs.Walk.{Scan, scan_none, scan_more, scan_cons, scan_nil}
use Rattle.lists.proofs.Places.{all_step, all_stop, all_end, any_step, any_stop, any_end, pairs_step, pairs_stop, pairs_end}

-- ---- every entry passes: the loop stops at the first that does not
pub record Each {A : Type 0} (p : A → Bool) (l : List A) (size k n i : ℕ) : Type 0 where
  pub scan : Scan l size k n i
  pub left : all p (take k l) ≡ all p (drop i (take k l))

pub each_none : {A : Type 0} (p : A → Bool) {l : List A} {size k n : ℕ} → length l ≡ size → n ≡ min k size → Each p l size k n 0
each_none p h e = record { scan = scan_none h e; left = refl }

module _ {A : Type 0} {p : A → Bool} {l : List A} {size k n i : ℕ} (s : Each p l size k n i) where
  pub each_stop : (d : A) {b : Bool} → i < n → b ≡ p (get_or l i d) → not b ≡ true → false ≡ all p (take k l)
  each_stop d h t e = sym (s.left ∙ all_stop p (scan_cons d s.scan h) t (not-true _ e))

  pub each_more : (d : A) {b : Bool} → i < n → b ≡ p (get_or l i d) → not b ≡ false → Each p l size k n (i + 1)
  each_more d h t e =
      record { scan = scan_more s.scan h; left = s.left ∙ all_step p (scan_cons d s.scan h) t (not-false _ e) }

  pub each_end : n ≤ i → true ≡ all p (take k l)
  each_end h = sym (s.left ∙ all_end (scan_nil s.scan h) p)

-- ---- some entry passes, from a place on: the loop stops at the first that does
pub record Seeking {A : Type 0} (p : A → Bool) (l : List A) (size k n from j : ℕ) : Type 0 where
  pub scan : Scan l size k n j
  pub left : any p (drop from (take k l)) ≡ any p (drop j (take k l))

pub seek_from : {A : Type 0} (p : A → Bool) {l : List A} {size k n from : ℕ} → Scan l size k n from → Seeking p l size k n from from
seek_from p s = record { scan = s; left = refl }

module _ {A : Type 0} {p : A → Bool} {l : List A} {size k n from j : ℕ} (s : Seeking p l size k n from j) where
  pub seek_found : (d : A) {b : Bool} → j < n → b ≡ p (get_or l j d) → b ≡ true → any p (drop from (take k l)) ≡ true
  seek_found d h t e = s.left ∙ any_stop p (scan_cons d s.scan h) t e

  pub seek_more : (d : A) {b : Bool} → j < n → b ≡ p (get_or l j d) → b ≡ false → Seeking p l size k n from (j + 1)
  seek_more d h t e =
      record { scan = scan_more s.scan h; left = s.left ∙ any_step p (scan_cons d s.scan h) t e }

  pub seek_end : n ≤ j → any p (drop from (take k l)) ≡ false
  seek_end h = s.left ∙ any_end (scan_nil s.scan h) p

-- ---- no entry is related to a later one: each is sought among those after it
pub record Pairing {A : Type 0} (f : A → A → Bool) (l : List A) (size k n i : ℕ) : Type 0 where
  pub scan : Scan l size k n i
  pub left : pairs f (take k l) ≡ pairs f (drop i (take k l))

pub pair_none : {A : Type 0} (f : A → A → Bool) {l : List A} {size k n : ℕ} → length l ≡ size → n ≡ min k size → Pairing f l size k n 0
pair_none f h e = record { scan = scan_none h e; left = refl }

module _ {A : Type 0} {f : A → A → Bool} {l : List A} {size k n i : ℕ} (s : Pairing f l size k n i) where
  pub pair_seek : (d : A) → i < n → Seeking (f (get_or l i d)) l size k n (i + 1) (i + 1)
  pair_seek d h = seek_from _ (scan_more s.scan h)

  pub pair_found : (d : A) → i < n → any (f (get_or l i d)) (drop (i + 1) (take k l)) ≡ true → pairs f (take k l) ≡ true
  pair_found d h e = s.left ∙ pairs_stop f (scan_cons d s.scan h) (sym e) refl

  pub pair_more : (d : A) → i < n → any (f (get_or l i d)) (drop (i + 1) (take k l)) ≡ false → Pairing f l size k n (i + 1)
  pair_more d h e =
      record { scan = scan_more s.scan h; left = s.left ∙ pairs_step f (scan_cons d s.scan h) (sym e) refl }

  pub pair_end : n ≤ i → pairs f (take k l) ≡ false
  pair_end h = s.left ∙ pairs_end (scan_nil s.scan h) f

-- ---- the parts of a list as a table: fewer of them; and more than there are, which a test lets pass
pub parts_take : {A : Type 0} (size n m : ℕ) (l : List A) → n ≤ m → parts size n l ≡ take n (parts size m l)
unfolding parts
parts_take size zero m l h = refl
parts_take size (suc n) zero l h = absurd (omega arith)
parts_take size (suc n) (suc m) l h = rw (parts_take size n m (drop size l) (omega arith))

module _ {A : Type 0} (q : List A → Bool) (blank : q [] ≡ true) (size : ℕ) where
  pub parts_capped : (n m : ℕ) (l : List A) → length l ≡ size * m → all q (parts size n l) ≡ all q (take n (parts size m l))
  unfolding parts
  parts_capped zero m l h = refl
  parts_capped (suc n) zero [] h = rw (drop-nil size, take-nil size, blank) (parts_capped n zero [] h ∙ ap (all q) (take-nil n))
  parts_capped (suc n) zero (x ∷ l) h = let e : suc (length l) ≡ 0 = rw mul-zero at h in absurd (omega arith)
  parts_capped (suc n) (suc m) l h =
      let g : length l ≡ size * m + size = rw mul-suc at h in
      let e : length (drop size l) ≡ size * m = omega (arith, length-drop size l) in
      rw (parts_capped n m (drop size l) e)
