-- A loop that rebuilds a table into a blank one: what it has written and what is left of its source are together what is wanted.
use Prim.Native.Nat.{ℕ, ◌+◌, ◌≤◌, ◌<◌, min}
use mathlib.Core.Path.{◌≡◌, refl}
use mathlib.Core.List.{List, [], ◌∷◌, ◌++◌, append-nil}
use mathlib.Core.Bool.{Bool, true, false}
use native.Mathlib.Omega.{arith}
use lib.ListN.{length, take, drop, get_or, set, replicate, length-append, length-take}
use Rattle.lists.specs.Lists.{keep}
use Rattle.lists.proofs.Walk.{Scan, scan_none, scan_more, scan_cons, scan_nil}
use Rattle.lists.proofs.Tables.{Built, Grown, grown_none, grown_step, grown_skip, grown_end, grown_room}
use Rattle.lists.proofs.Members.{length_keep}

-- ---- the entries that pass a test
pub record Sifted {A : Type 0} (p : A → Bool) (b : A) (size : ℕ) (l : List A) (k n i : ℕ) (items : List A) (kept : ℕ) : Type 0 where
  pub scan : Scan l size k n i
  pub behind : kept ≤ i
  pub grown : Grown b size (keep p (take k l)) (keep p (drop i (take k l))) items kept

pub sift_none : {A : Type 0} (p : A → Bool) (b : A) {size : ℕ} {l : List A} {k n : ℕ} → length l ≡ size → n ≡ min k size → Sifted p b size l k n 0 (replicate size b) 0
sift_none p b {size} {l} {k} h e =
    record {
      scan = scan_none h e;
      behind = omega arith;
      grown = grown_none b size (keep p (take k l)) (omega (arith, length_keep p (take k l), length-take k l));
    }

module _ {A : Type 0} {p : A → Bool} {b : A} {size : ℕ} {l : List A} {k n i : ℕ} {items : List A} {kept : ℕ} (s : Sifted p b size l k n i items kept) where
  pub sift_keeps : (d : A) {items' : List A} {kept' : ℕ} → i < n → p (get_or l i d) ≡ true → items' ≡ set items kept (get_or l i d) → kept' ≡ kept + 1 → Sifted p b size l k n (i + 1) items' kept'
  sift_keeps d h e f g =
      record {
        scan = scan_more s.scan h;
        behind = omega (arith, s.behind);
        grown = rw (f, g) (grown_step s.grown (rw (scan_cons d s.scan h, e)));
      }

  pub sift_drops : (d : A) {items' : List A} {kept' : ℕ} → i < n → p (get_or l i d) ≡ false → items' ≡ items → kept' ≡ kept → Sifted p b size l k n (i + 1) items' kept'
  sift_drops d h e f g =
      record {
        scan = scan_more s.scan h;
        behind = omega (arith, s.behind);
        grown = rw (f, g) (grown_skip s.grown (rw (scan_cons d s.scan h, e)));
      }

  pub sift_end : n ≤ i → Built b size (keep p (take k l)) items kept
  sift_end h = grown_end s.grown (rw (scan_nil s.scan h))

-- ---- all entries, and then some more
pub record Copied {A : Type 0} (b : A) (room : ℕ) (ys : List A) (l : List A) (size k n i : ℕ) (items : List A) : Type 0 where
  pub scan : Scan l size k n i
  pub grown : Grown b room (take k l ++ ys) (drop i (take k l) ++ ys) items i

pub copy_none : {A : Type 0} (b : A) (room : ℕ) (ys : List A) {l : List A} {size k n : ℕ} → length l ≡ size → n ≡ min k size → n + length ys ≤ room → Copied b room ys l size k n 0 (replicate room b)
copy_none b room ys {l} {k = k} h e f =
    record {
      scan = scan_none h e;
      grown = grown_none b room _ (omega (arith, length-append (take k l) ys, length-take k l));
    }

module _ {A : Type 0} {b : A} {room : ℕ} {ys l : List A} {size k n i : ℕ} {items : List A} (s : Copied b room ys l size k n i items) where
  pub copy_room : (d : A) → i < n → i < room
  copy_room d h =
      let e : drop i (take k l) ++ ys ≡ get_or l i d ∷ (drop (i + 1) (take k l) ++ ys) = rw (scan_cons d s.scan h) in
      grown_room s.grown e

  pub copy_more : (d : A) → i < n → Copied b room ys l size k n (i + 1) (set items i (get_or l i d))
  copy_more d h = record { scan = scan_more s.scan h; grown = grown_step s.grown (rw (scan_cons d s.scan h)) }

  pub copy_end : n ≤ i → Grown b room (take k l ++ ys) ys items i
  copy_end h = grown_skip s.grown (rw (scan_nil s.scan h))

pub copy_all : {A : Type 0} {b : A} {room : ℕ} {l : List A} {size k n i : ℕ} {items : List A} → Copied b room [] l size k n i items → n ≤ i → Built b room (take k l) items n
copy_all {n = n} {i} s h =
    let e : n ≡ i = omega (arith, s.scan.passed) in
    rw e (rw append-nil at (grown_end (copy_end s h) refl))

-- one more, put where the loop ended
pub copy_last : {A : Type 0} {b : A} {room : ℕ} {y : A} {l : List A} {size k n i : ℕ} {items : List A} → Copied b room (y ∷ []) l size k n i items → n ≤ i → Built b room (take k l ++ (y ∷ [])) (set items n y) (n + 1)
copy_last {n = n} {i} s h =
    let e : n ≡ i = omega (arith, s.scan.passed) in
    rw e (grown_end (grown_step (copy_end s h) refl) refl)
