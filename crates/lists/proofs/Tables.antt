-- A counted table that is built element by element: a list, and blanks after it up to the size.
use Prim.Native.Nat.{ℕ, zero, suc, ◌+◌, ◌-◌, ◌≤◌, ◌<◌}
use mathlib.Core.Path.{◌≡◌, refl, ap, sym, ◌∙◌}
use mathlib.Core.List.{List, [], ◌∷◌, ◌++◌, append-nil}
use native.Mathlib.Omega.{arith}
use native.Mathlib.Nat.{sub-zero, add-zero}
use lib.ListN.{length, take, get_or, set, replicate, length-append, length-replicate, length-set, length-take, get_or-append, get_or-eq_default, drop, drop_of_length-le}
use lib.Seq.{set-append_left, set-append_seam, append_snoc, take-append_seam, sets, drop-cons, get_or-take, ext_get_or}
use Rattle.lists.specs.Tables.{pad}
use native.Mathlib.Numerals.{add-one}
use native.Mathlib.Decide.{dec_lt}

module _ {A : Type 0} (b : A) (n : ℕ) (xs : List A) where
  -- what stands in a table is the list that it was made of
  pub take_pad : take (length xs) (pad b n xs) ≡ xs
  take_pad = take-append_seam xs (replicate (n - length xs) b)

  pub length_pad : length xs ≤ n → length (pad b n xs) ≡ n
  length_pad h = simp (length-append, length-replicate) (omega arith)

  pub get_or_pad : (i : ℕ) (d : A) → i < length xs → get_or (pad b n xs) i d ≡ get_or xs i d
  get_or_pad i d h = get_or-append xs (replicate (n - length xs) b) d i h

  -- an element is replaced; one more is appended
  pub set_pad : (i : ℕ) (x : A) → i < length xs → set (pad b n xs) i x ≡ pad b n (set xs i x)
  set_pad i x h = rw (length-set) (set-append_left xs (replicate (n - length xs) b) i x h)

  pub pad_more : (x : A) → length xs < n → set (pad b n xs) (length xs) x ≡ pad b n (xs ++ (x ∷ []))
  pad_more x h =
      let e : n - length xs ≡ suc (n - suc (length xs)) = omega arith in
      let f : n - length (xs ++ (x ∷ [])) ≡ n - suc (length xs) = simp length-append (omega arith) in
      rw (e, f, set-append_seam, append_snoc)

-- ---- a table is built: `items` is the list, padded, and `kept` its length
pub record Built {A : Type 0} (b : A) (size : ℕ) (xs items : List A) (kept : ℕ) : Type 0 where
  pub items_are : items ≡ pad b size xs
  pub kept_is : kept ≡ length xs

pub built_none : {A : Type 0} (b : A) (size : ℕ) → Built b size [] (replicate size b) 0
built_none b size = record { items_are = rw (sub-zero size); kept_is = refl }

module _ {A : Type 0} {b : A} {size : ℕ} {xs items : List A} {kept : ℕ} (g : Built b size xs items kept) where
  -- one more element is stored
  pub built_more : (x : A) → kept < size → Built b size (xs ++ (x ∷ [])) (set items kept x) (kept + 1)
  built_more x h =
      record {
        items_are = rw (g.items_are, g.kept_is) (pad_more b size xs x (omega (arith, g.kept_is)));
        kept_is = simp length-append (omega (arith, g.kept_is));
      }

  pub built_take : take kept items ≡ xs
  built_take = rw (g.items_are, g.kept_is) (take_pad b size xs)

-- ---- any loop that builds a table: what it has, and what it has yet to append, are together the target
pub record Grown {A : Type 0} (b : A) (size : ℕ) (target rest items : List A) (kept : ℕ) : Type 0 where
  pub sofar : List A
  pub built : Built b size sofar items kept
  pub whole : target ≡ sofar ++ rest
  pub fits : length target ≤ size

pub grown_none : {A : Type 0} (b : A) (size : ℕ) (target : List A) → length target ≤ size → Grown b size target target (replicate size b) 0
grown_none b size target h = record { sofar = []; built = built_none b size; whole = refl; fits = h }

-- a loop that appends to a table goes on from what stands in it
pub grown_from : {A : Type 0} {b : A} {size : ℕ} {xs items : List A} {kept : ℕ} (rest : List A) → Built b size xs items kept → length (xs ++ rest) ≤ size → Grown b size (xs ++ rest) rest items kept
grown_from {xs = xs} rest g h = record { sofar = xs; built = g; whole = refl; fits = h }

module _ {A : Type 0} {b : A} {size : ℕ} {target rest items : List A} {kept : ℕ} (g : Grown b size target rest items kept) where
  pub grown_room : {x : A} {rest' : List A} → rest ≡ x ∷ rest' → kept < size
  grown_room {x} {rest'} e =
      omega (arith, g.fits, g.built.kept_is, ap length g.whole ∙ length-append g.sofar rest, ap length e)

  pub grown_step : {x : A} {rest' : List A} → rest ≡ x ∷ rest' → Grown b size target rest' (set items kept x) (kept + 1)
  grown_step {x} {rest'} e =
      record {
        sofar = g.sofar ++ (x ∷ []);
        built = built_more g.built x (grown_room e);
        whole = g.whole ∙ rw (e, append_snoc);
        fits = g.fits;
      }

  pub grown_skip : {rest' : List A} → rest ≡ rest' → Grown b size target rest' items kept
  grown_skip e = record { sofar = g.sofar; built = g.built; whole = g.whole ∙ rw e; fits = g.fits }

  pub grown_end : rest ≡ [] → Built b size target items kept
  grown_end e = let t : target ≡ g.sofar = g.whole ∙ rw (e, append-nil) in rw t g.built

-- a run is stored: its next element, or no more
module _ {A : Type 0} (d : A) (l : List A) (at : ℕ) (xs : List A) (j : ℕ) where
  pub sets_next : j < length xs → sets l (at + j) (drop j xs) ≡ sets (set l (at + j) (get_or xs j d)) (at + (j + 1)) (drop (j + 1) xs)
  sets_next h =
      let e : at + suc j ≡ suc (at + j) = omega arith in
      rw (drop-cons xs j d h, add-one j, e)

  pub sets_end : length xs ≤ j → sets l (at + j) (drop j xs) ≡ l
  sets_end h = rw (drop_of_length-le xs {i = j} h)

-- a table is built by a run at a time
pub grown_run : {A : Type 0} {b : A} {size : ℕ} {target rest items : List A} {kept : ℕ} (ys : List A) {rest' : List A} → Grown b size target rest items kept → rest ≡ ys ++ rest' → Grown b size target rest' (sets items kept ys) (kept + length ys)
grown_run {kept = kept} [] g e = rw (add-zero, ← e) g
grown_run {A} {b} {size} {target} {rest} {items} {kept} (y ∷ ys) {rest'} g e =
    let f : kept + 1 + length ys ≡ kept + suc (length ys) = omega arith in
    rw (← f, ← add-one kept) (grown_run {rest = ys ++ rest'} ys (grown_step g e) refl)

-- ---- padded with the element that stands past the end: every place reads the same
module _ {A : Type 0} (b : A) where
  get_or_blank : (k i : ℕ) → get_or (replicate k b) i b ≡ b
  get_or_blank zero i = refl
  get_or_blank (suc k) zero = refl
  get_or_blank (suc k) (suc i) = get_or_blank k i

  get_or_padded : (l : List A) (k i : ℕ) → get_or (l ++ replicate k b) i b ≡ get_or l i b
  get_or_padded [] k i = get_or_blank k i
  get_or_padded (x ∷ l) k zero = refl
  get_or_padded (x ∷ l) k (suc i) = get_or_padded l k i

  pub get_or_everywhere : (n : ℕ) (l : List A) (i : ℕ) → get_or (pad b n l) i b ≡ get_or l i b
  get_or_everywhere n l i = get_or_padded l (n - length l) i

  -- what was cut to m and padded stays so
  pub pad_again : (n m : ℕ) (l : List A) → m ≤ n → pad b n (take m (pad b n (take m l))) ≡ pad b n (take m l)
  pad_again n m l h =
      let once : length (take m l) ≤ n = simp length-take (omega arith) in
      let twice : length (take m (pad b n (take m l))) ≤ n = simp length-take (omega arith) in
      ext_get_or b _ _ (length_pad b n (take m (pad b n (take m l))) twice ∙ sym (length_pad b n (take m l) once)) (λ i j. at i (dec_lt i m))
    where
      past : (xs : List A) (i : ℕ) → (i < m → ⊥) → get_or (take m xs) i b ≡ b
      past xs i k = get_or-eq_default (take m xs) b {n = i} (simp length-take (omega arith))

      at : (i : ℕ) → Dec (i < m) → get_or (pad b n (take m (pad b n (take m l)))) i b ≡ get_or (pad b n (take m l)) i b
      at i (yes k) = get_or_everywhere n (take m (pad b n (take m l))) i ∙ get_or-take m (pad b n (take m l)) i b k
      at i (no k) = get_or_everywhere n (take m (pad b n (take m l))) i ∙ (past (pad b n (take m l)) i k ∙ sym (get_or_everywhere n (take m l) i ∙ past l i k))
