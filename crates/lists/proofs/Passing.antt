-- A table of those that pass: an element more keeps or drops it.
use Rattle.std.proofs.Common.{ℕ, ◌≡◌, ◌+◌, ◌<◌, Bool, true, false, List, [], ◌∷◌, ◌++◌, take, set, length, filter, slice_index_or, sym, length-append, drop, drop-cons, add-one, map, length-set, take_all, ap, take-suc, take-suc-set, ◌≤◌, arith, get_or}
use borrow.Table.Elements.{map_app}
use mathlib.Core.Path.{◌∙◌}
use Rattle.std.proofs.lemmas.List.{nil_from_length, drop_all}
use Rattle.lists.specs.Lists.{any, pairs}
use Rattle.std.proofs.lemmas.List.Elements.{filter_more}
use mathlib.Core.List.{append-nil}
use Rattle.lists.specs.declared.Table.{Table}
use Rattle.lists.specs.Tables.{pad, filled}
use Rattle.lists.proofs.Tables.{Built, built_more, pad_more}

module _ {A : Type 0} (p : A → Bool) {b : A} {n i k : ℕ} {x : A} (xs : List A) {items : List A} (h : i < length xs) (e : x ≡ slice_index_or xs i x) (w : Built b n (filter p (take i xs)) items k) where
  pub kept_more : p x ≡ true → k < n → Built b n (filter p (take (i + 1) xs)) (set items k x) (k + 1)
  kept_more q f = rw (filter_more p xs i x h, ← e, q) (built_more w x f)

  pub kept_same : p x ≡ false → Built b n (filter p (take (i + 1) xs)) items k
  kept_same q = rw (filter_more p xs i x h, ← e, q, append-nil) w

pub built_filled : {A : Type 0} {b : A} {n k : ℕ} {xs items : List A} → Built b n xs items k → ◌≡◌ {A = Table A n} (record { count = k; items = items }) (filled {n = n} b n xs)
built_filled w = rw (w.items_are, w.kept_is)

-- one more element, stored behind the others
pub filled_more : {A : Type 0} (b : A) (n : ℕ) (xs : List A) (x : A) → length xs < n → ◌≡◌ {A = Table A n} (record { count = length xs + 1; items = set (pad b n xs) (length xs) x }) (filled {n = n} b n (xs ++ (x ∷ [])))
filled_more b n xs x h = rw (pad_more b n xs x h, length-append xs (x ∷ []))

-- ---- the elements that are left decide whether one passes
module _ {A : Type 0} (p : A → Bool) {i : ℕ} (d : A) (l : List A) (w : any p l ≡ any p (drop i l)) (h : i < length l) where
  next_left : drop i l ≡ get_or l i d ∷ drop (i + 1) l
  next_left = drop-cons l i d h ∙ rw add-one

  pub left_found : p (get_or l i d) ≡ true → true ≡ any p l
  left_found q = sym (w ∙ rw (next_left, q))

  pub left_more : p (get_or l i d) ≡ false → any p l ≡ any p (drop (i + 1) l)
  left_more q = w ∙ rw (next_left, q)

-- none is left
pub left_none : {A : Type 0} (p : A → Bool) (l : List A) {i : ℕ} → any p l ≡ any p (drop i l) → length l ≤ i → false ≡ any p l
left_none p l {i} w h = sym (w ∙ rw (drop_all i l h))

-- ---- pairs: the first element with those behind it, and then those
module _ {A : Type 0} (f : A → A → Bool) {x : A} {rest later : List A} (e : rest ≡ x ∷ later) where
  pub pairs_found : true ≡ any (f x) later → true ≡ pairs f rest
  unfolding pairs
  pairs_found q = rw (e, ← q)

  pub pairs_more : false ≡ any (f x) later → pairs f rest ≡ pairs f later
  unfolding pairs
  pairs_more q = rw (e, ← q)

pub pairs_none : {A : Type 0} (f : A → A → Bool) (l : List A) → length l ≡ 0 → false ≡ pairs f l
unfolding pairs
pairs_none f l h = rw (nil_from_length l h)

-- ---- the entries of an array, made of those of another up to k
pub record Made {A B : Type 0} (m : A → B) (from : List A) (size k : ℕ) (items : List B) : Type 0 where
  pub long : length from ≡ size
  pub room : length items ≡ size
  pub same : take k items ≡ map m (take k from)

module _ {A B : Type 0} {m : A → B} {from : List A} {size k : ℕ} {items : List B} (s : Made m from size k items) where
  pub made_more : (x : A) {y : B} → k < size → y ≡ m (slice_index_or from k x) → Made m from size (k + 1) (set items k y)
  made_more x {y} h f = record {
    long = s.long;
    room = length-set items k y ∙ s.room;
    same = rw (add-one k, take-suc-set items k y (omega (arith, s.room, h)), take-suc from k x (omega (arith, s.long, h)), map_app m, s.same, f);
  }

  pub made_all : size ≤ k → items ≡ map m from
  made_all h = sym (take_all k items (omega (arith, s.room, h))) ∙ (s.same ∙ ap (map m) (take_all k from (omega (arith, s.long, h))))
