-- A loop over the first n elements of an array l of `size` elements, of which it has passed i: what is left decides.
use Prim.Native.Nat.{ℕ, suc, ◌+◌, ◌-◌, ◌≤◌, ◌<◌, min}
use mathlib.Core.Path.{◌≡◌, ap, sym, ◌∙◌}
use mathlib.Core.List.{List, [], ◌∷◌, ◌++◌, map}
use native.Mathlib.Omega.{arith}
use native.Mathlib.Numerals.{add-one}
use native.Mathlib.Decide.{dec_le}
use lib.ListN.{length, take, drop, get_or, replicate, length-take, length-map, drop_of_length-le}
use lib.Seq.{drop-cons, get_or-take, take_all}
use mathlib.Core.Bool.{Bool, true, false}
use Rattle.lists.specs.Lists.{place_of, find}
use Rattle.std.specs.Prelude.{Some, None}
use borrow.Author.Tests.{lt-ltb, le-ltb}
use Rattle.lists.proofs.Members.{place_any, place_find, none_find, any_none}

pub record Walk {A : Type 0} (l : List A) (size n i : ℕ) : Type 0 where
  pub long : length l ≡ size
  pub counted : n ≤ size
  pub passed : i ≤ n

module _ {A : Type 0} {l : List A} {size n : ℕ} where
  pub walk_none : length l ≡ size → n ≤ size → Walk l size n 0
  walk_none h k = record { long = h; counted = k; passed = omega arith }

  pub walk_more : {i : ℕ} → Walk l size n i → i < n → Walk l size n (i + 1)
  walk_more s h = record { long = s.long; counted = s.counted; passed = omega arith }

  -- what is left: an element and the rest, or nothing
  pub walk_cons : (d : A) {i : ℕ} → Walk l size n i → i < n → drop i (take n l) ≡ get_or l i d ∷ drop (i + 1) (take n l)
  walk_cons d {i} s h =
      let e : i < length (take n l) = omega (arith, length-take n l) in
      rw add-one (drop-cons (take n l) i d e ∙ rw (get_or-take n l i d h))

  pub walk_nil : {i : ℕ} → Walk l size n i → n ≤ i → drop i (take n l) ≡ []
  walk_nil {i} s h = drop_of_length-le (take n l) {i = i} (omega (arith, length-take n l))

-- what is left of a run, or of some blanks, is one element and the rest
pub drop_one : {A : Type 0} (d : A) (s : List A) (j : ℕ) → j < length s → drop j s ≡ (get_or s j d ∷ []) ++ drop (j + 1) s
drop_one d s j h = rw (add-one, drop-cons s j d)

pub blanks_one : {A : Type 0} (b : A) (n j : ℕ) → j < n → replicate (n - j) b ≡ (b ∷ []) ++ replicate (n - (j + 1)) b
blanks_one b n j h = let e : n - j ≡ suc (n - (j + 1)) = omega arith in rw e

-- the number of an array's elements, from what owning it tells
pub length_mapped : {X Y : Type 0} (f : X → Y) (l : List X) (n : ℕ) → length (map f l) ≡ n → length l ≡ n
length_mapped f l n e = rw length-map at e

-- a count past the size is as good as the size
pub take_cap : {A : Type 0} (l : List A) (n k size : ℕ) → length l ≡ size → n ≡ min k size → take n l ≡ take k l
take_cap l n k size h e = go (dec_le k size)
  where
    go : Dec (k ≤ size) → take n l ≡ take k l
    go (yes p) = let q : n ≡ k = omega arith in ap (λ m. take m l) q
    go (no p) = take_all n l (omega arith) ∙ sym (take_all k l (omega arith))

-- ---- a loop over what a table has in use, whatever its count k says: it goes up to n, the count or, if that is less, the size
pub record Scan {A : Type 0} (l : List A) (size k n i : ℕ) : Type 0 where
  pub long : length l ≡ size
  pub cap : n ≡ min k size
  pub passed : i ≤ n

module _ {A : Type 0} {l : List A} {size k n : ℕ} where
  pub scan_none : length l ≡ size → n ≡ min k size → Scan l size k n 0
  scan_none h e = record { long = h; cap = e; passed = omega arith }

  pub scan_more : {i : ℕ} → Scan l size k n i → i < n → Scan l size k n (i + 1)
  scan_more s h = record { long = s.long; cap = s.cap; passed = omega arith }

  scanned : {i : ℕ} → Scan l size k n i → Walk l size n i
  scanned s = record { long = s.long; counted = omega (arith, s.cap); passed = s.passed }

  in_use : {i : ℕ} → Scan l size k n i → take n l ≡ take k l
  in_use s = take_cap l n k size s.long s.cap

  -- what is left of the entries in use: one and the rest, or nothing
  pub scan_cons : (d : A) {i : ℕ} → Scan l size k n i → i < n → drop i (take k l) ≡ get_or l i d ∷ drop (i + 1) (take k l)
  scan_cons d s h = rw (in_use s) at (walk_cons d (scanned s) h)

  pub scan_nil : {i : ℕ} → Scan l size k n i → n ≤ i → drop i (take k l) ≡ []
  scan_nil s h = rw (in_use s) at (walk_nil (scanned s) h)

-- ---- a loop that looks for a place: it has passed i, and what is left has the rest of it
pub record Placing {A : Type 0} (p : A → Bool) (total i : ℕ) (rest : List A) : Type 0 where
  pub place : total ≡ i + place_of p rest

pub place_first : {A : Type 0} (p : A → Bool) (l : List A) → Placing p (place_of p l) 0 l
place_first p l = record { place = omega arith }

module _ {A : Type 0} {p : A → Bool} {total i : ℕ} {rest : List A} (s : Placing p total i rest) where
  pub place_here : {x : A} {r : List A} → rest ≡ x ∷ r → p x ≡ true → total ≡ i
  unfolding place_of
  place_here q h = s.place ∙ rw (q, h) (omega arith)

  pub place_later : {x : A} {r : List A} → rest ≡ x ∷ r → p x ≡ false → Placing p total (i + 1) r
  unfolding place_of
  place_later q h = record { place = s.place ∙ rw (q, h) (omega arith) }

  pub place_nowhere : rest ≡ [] → total ≡ i
  unfolding place_of
  place_nowhere q = s.place ∙ rw q (omega arith)

-- a table of which n entries are in use, its count or, if that is less, its size, and the place of the first that passes
module _ {A : Type 0} (p : A → Bool) (items : List A) (size given : ℕ) {n place : ℕ} (long : length items ≡ size) (cap : n ≡ min given size) (at : place ≡ place_of p (take given items)) where
  pub found_at : (d : A) → place < n → find p (take given items) ≡ Some (get_or items place d)
  found_at d h =
      let l = take given items in
      let e : place_of p l < length l = omega (arith, length-take given items) in
      place_find p d l (sym (place_any p l) ∙ lt-ltb (place_of p l) (length l) e)
      ∙ rw (← at, get_or-take given items place d (omega arith))

  pub found_nowhere : n ≤ place → find p (take given items) ≡ None
  found_nowhere h =
      let l = take given items in
      let e : length l ≤ place_of p l = omega (arith, length-take given items) in
      none_find p l (λ x m. any_none p (sym (place_any p l) ∙ le-ltb (place_of p l) (length l) e) m)
