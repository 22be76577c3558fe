-- What is in a list, and what the tests, searches and filters of a list tell of its elements.
use Prim.Native.Nat.{ℕ, zero, suc, ◌≤◌, ◌<◌}
use mathlib.Core.Path.{◌≡◌, refl, ap, sym, ◌∙◌, subst}
use mathlib.Core.List.{List, [], ◌∷◌, ◌++◌, map}
use Rattle.std.specs.Prelude.{option_map}
use Rattle.std.specs.Prelude.{Option, Some, None}
use mathlib.Core.Bool.{Bool, true, false, cond, ◌&&◌, ◌||◌, or_assoc, and_assoc}
use mathlib.Core.Bool as Bool
use mathlib.Core.Logic.{◌⊎◌, inl, inr, ⊎_elim}
use native.Mathlib.Omega.{arith}
use lib.ListN.{length, get_or}
use lib.Dec.{ltb}
use borrow.Author.Tests.{lt-ltb, le-ltb}
use Rattle.lists.specs.Lists.{◌∈◌, here, there, find, place_of, keep, any, all, pairs, is_some, gather, Different}
use Rattle.lists.proofs.Tests.{split, clashes, none_not_some, and_true, or_false, or_true}

-- ---- who is in a list
pub in_cons : {A : Type 0} {x y : A} {l : List A} → x ∈ (y ∷ l) → (x ≡ y) ⊎ (x ∈ l)
in_cons (here e) = inl e
in_cons (there h) = inr h

pub in_left : {A : Type 0} {x : A} {l : List A} (m : List A) → x ∈ l → x ∈ (l ++ m)
in_left m (here e) = here e
in_left m (there h) = there (in_left m h)

pub in_right : {A : Type 0} {x : A} (l : List A) {m : List A} → x ∈ m → x ∈ (l ++ m)
in_right [] h = h
in_right (y ∷ l) h = there (in_right l h)

pub in_append : {A : Type 0} {x : A} (l : List A) {m : List A} → x ∈ (l ++ m) → (x ∈ l) ⊎ (x ∈ m)
in_append [] h = inr h
in_append (y ∷ l) (here e) = inl (here e)
in_append (y ∷ l) (there h) = ⊎_elim (λ k. inl (there k)) (λ k. inr k) (in_append l h)

pub in_map : {A B : Type 0} (f : A → B) {x : A} {l : List A} → x ∈ l → f x ∈ map f l
in_map f (here e) = here (ap f e)
in_map f (there h) = there (in_map f h)

pub from_map : {A B : Type 0} (f : A → B) {y : B} (l : List A) → y ∈ map f l → (x : A) × (x ∈ l) × (y ≡ f x)
from_map f [] h = elim h [ ]
from_map f (x ∷ l) (here e) = (x, here refl, e)
from_map f (x ∷ l) (there h) = let r = from_map f l h in (r.0, there r.1, r.2)

-- two maps, one after the other, are a third where they are so for each element
pub map_map : {A B C : Type 0} (f : A → B) (g : B → C) (h : A → C) (l : List A) → ((x : A) → x ∈ l → g (f x) ≡ h x) → map g (map f l) ≡ map h l
map_map f g h [] e = refl
map_map f g h (x ∷ l) e = rw (e x (here refl), map_map f g h l (λ y m. e y (there m)))

pub map_same : {A : Type 0} (f : A → A) (l : List A) → ((x : A) → x ∈ l → f x ≡ x) → map f l ≡ l
map_same f [] e = refl
map_same f (x ∷ l) e = rw (e x (here refl), map_same f l (λ y m. e y (there m)))

pub in_gather : {A B : Type 0} (f : A → List B) {x : A} {y : B} {l : List A} → x ∈ l → y ∈ f x → y ∈ gather f l
in_gather f {y = y} (here {l = m} e) k = in_left (gather f m) (subst (λ w. y ∈ f w) e k)
in_gather f (there {y = z} h) k = in_right (f z) (in_gather f h k)

pub from_gather : {A B : Type 0} (f : A → List B) {y : B} (l : List A) → y ∈ gather f l → (x : A) × (x ∈ l) × (y ∈ f x)
from_gather f [] h = elim h [ ]
from_gather f (z ∷ l) h =
    ⊎_elim (λ k. (z, here refl, k)) (λ k. let r = from_gather f l k in (r.0, there r.1, r.2)) (in_append (f z) h)

pub in_get_or : {A : Type 0} (d : A) (l : List A) (i : ℕ) → i < length l → get_or l i d ∈ l
in_get_or d [] i h = absurd (omega arith)
in_get_or d (x ∷ l) zero h = here refl
in_get_or d (x ∷ l) (suc i) h = there (in_get_or d l i (omega arith))

pub place_in : {A : Type 0} (d : A) {x : A} {l : List A} → x ∈ l → (i : ℕ) × (i < length l) × (get_or l i d ≡ x)
place_in d (here e) = (0, omega arith, sym e)
place_in d (there h) = let r = place_in d h in (suc r.0, omega (arith, r.1), r.2)

-- ---- what passes a test
module _ {A : Type 0} (p : A → Bool) where
  pub in_keep : {x : A} {l : List A} → x ∈ l → p x ≡ true → x ∈ keep p l
  in_keep {l = []} h e = elim h [ ]
  in_keep {l = y ∷ l} (here h) e = rw (ap p (sym h) ∙ e) (here h)
  in_keep {l = y ∷ l} (there h) e = let k = in_keep h e in split (p y) (λ q. rw q (there k)) (λ q. rw q k)

  pub from_keep : {x : A} (l : List A) → x ∈ keep p l → (x ∈ l) × (p x ≡ true)
  from_keep [] h = elim h [ ]
  from_keep (y ∷ l) h =
      split
      (p y)
      (λ q. ⊎_elim (λ e. (here e, ap p e ∙ q)) (λ k. let r = from_keep l k in (there r.0, r.1)) (in_cons (rw q at h)))
      (λ q. let r = from_keep l (rw q at h) in (there r.0, r.1))

  pub any_in : {x : A} {l : List A} → x ∈ l → p x ≡ true → any p l ≡ true
  any_in {l = []} h e = elim h [ ]
  any_in {l = y ∷ l} (here h) e = rw (ap p (sym h) ∙ e)
  any_in {l = y ∷ l} (there h) e = split (p y) (λ q. rw q) (λ q. rw q (any_in h e))

  pub in_any : (l : List A) → any p l ≡ true → (x : A) × (x ∈ l) × (p x ≡ true)
  in_any [] e = clashes e refl
  in_any (y ∷ l) e =
      split (p y) (λ q. (y, here refl, q)) (λ q. let r = in_any l (rw q at e) in (r.0, there r.1, r.2))

  pub any_none : {x : A} {l : List A} → any p l ≡ false → x ∈ l → p x ≡ false
  any_none {x} e h = split (p x) (λ q. clashes (any_in h q) e) (λ q. q)

  pub none_any : (l : List A) → ((x : A) → x ∈ l → p x ≡ false) → any p l ≡ false
  none_any l f = split (any p l) (λ q. let r = in_any l q in clashes r.2 (f r.0 r.1)) (λ q. q)

  pub all_in : {x : A} {l : List A} → all p l ≡ true → x ∈ l → p x ≡ true
  all_in {l = []} e h = elim h [ ]
  all_in {l = y ∷ l} e (here h) = ap p h ∙ (and_true (p y) (all p l) e).0
  all_in {l = y ∷ l} e (there h) = all_in (and_true (p y) (all p l) e).1 h

  pub in_all : (l : List A) → ((x : A) → x ∈ l → p x ≡ true) → all p l ≡ true
  in_all [] f = refl
  in_all (y ∷ l) f = rw (f y (here refl)) (in_all l (λ x h. f x (there h)))

  pub not_all : (l : List A) → all p l ≡ false → (x : A) × (x ∈ l) × (p x ≡ false)
  not_all [] e = clashes refl e
  not_all (y ∷ l) e =
      split (p y) (λ q. let r = not_all l (rw q at e) in (r.0, there r.1, r.2)) (λ q. (y, here refl, q))

  pub find_in : (l : List A) {x : A} → find p l ≡ Some x → (x ∈ l) × (p x ≡ true)
  find_in [] e = absurd (none_not_some e)
  find_in (y ∷ l) {x} e =
      split
      (p y)
      (λ q. let f : ◌≡◌ {A = Option A} (Some y) (Some x) = rw q at e in let g : x ≡ y = cc in (here g, ap p g ∙ q))
      (λ q. let r = find_in l (rw q at e) in (there r.0, r.1))

  pub find_none : {x : A} {l : List A} → find p l ≡ None → x ∈ l → p x ≡ false
  find_none {l = []} e h = elim h [ ]
  find_none {l = y ∷ l} e h =
      split
      (p y)
      (λ q. absurd (none_not_some (sym (rw q at e))))
      (λ q. ⊎_elim (λ k. ap p k ∙ q) (λ k. find_none {l = l} (rw q at e) k) (in_cons h))

  pub none_find : (l : List A) → ((x : A) → x ∈ l → p x ≡ false) → find p l ≡ None
  none_find [] n = refl
  none_find (y ∷ l) n = rw (n y (here refl)) (none_find l (λ x h. n x (there h)))

  pub find_any : (l : List A) → is_some (find p l) ≡ any p l
  find_any [] = refl
  find_any (y ∷ l) = split (p y) (λ q. rw q) (λ q. rw q (find_any l))

  -- ---- one list after another
  pub any_append : (l m : List A) → any p (l ++ m) ≡ any p l || any p m
  any_append [] m = refl
  any_append (y ∷ l) m = rw (any_append l m) (sym (or_assoc (p y) (any p l) (any p m)))

  pub all_append : (l m : List A) → all p (l ++ m) ≡ all p l && all p m
  all_append [] m = refl
  all_append (y ∷ l) m = rw (all_append l m) (sym (and_assoc (p y) (all p l) (all p m)))

  pub keep_append : (l m : List A) → keep p (l ++ m) ≡ keep p l ++ keep p m
  keep_append [] m = refl
  keep_append (y ∷ l) m = split (p y) (λ q. rw (q, keep_append l m)) (λ q. rw (q, keep_append l m))

  pub find_append : (l m : List A) → find p (l ++ m) ≡ cond (any p l) (find p l) (find p m)
  find_append [] m = refl
  find_append (y ∷ l) m = split (p y) (λ q. simp q) (λ q. simp q (find_append l m))

  -- ---- what is kept: all, nothing, no more than there was
  pub keep_all : (l : List A) → all p l ≡ true → keep p l ≡ l
  keep_all [] e = refl
  keep_all (y ∷ l) e = let r = and_true (p y) (all p l) e in rw (r.0, keep_all l r.1)

  pub keep_none : (l : List A) → any p l ≡ false → keep p l ≡ []
  keep_none [] e = refl
  keep_none (y ∷ l) e = let r = or_false (p y) (any p l) e in rw (r.0, keep_none l r.1)

  pub length_keep : (l : List A) → length (keep p l) ≤ length l
  length_keep [] = omega arith
  length_keep (y ∷ l) =
      let h = length_keep l in split (p y) (λ q. rw q (omega arith)) (λ q. rw q (omega arith))

  -- ---- the place of the first that passes
  pub place_within : (l : List A) → place_of p l ≤ length l
  unfolding place_of
  place_within [] = omega arith
  place_within (y ∷ l) =
      let h = place_within l in split (p y) (λ q. rw q (omega arith)) (λ q. rw q (omega arith))

  pub place_some : (l : List A) → any p l ≡ true → place_of p l < length l
  unfolding place_of
  place_some [] e = clashes e refl
  place_some (y ∷ l) e =
      split (p y) (λ q. rw q (omega arith)) (λ q. let h = place_some l (rw q at e) in rw q (omega arith))

  pub place_none : (l : List A) → any p l ≡ false → place_of p l ≡ length l
  unfolding place_of
  place_none [] e = refl
  place_none (y ∷ l) e = let r = or_false (p y) (any p l) e in rw (r.0, place_none l r.1)

  pub place_any : (l : List A) → ltb (place_of p l) (length l) ≡ any p l
  place_any l =
      split
      (any p l)
      (λ e. rw e (lt-ltb (place_of p l) (length l) (place_some l e)))
      (λ e. rw e (le-ltb (place_of p l) (length l) (omega (arith, place_none l e))))

  pub place_find : (d : A) (l : List A) → any p l ≡ true → find p l ≡ Some (get_or l (place_of p l) d)
  unfolding place_of
  place_find d [] e = clashes e refl
  place_find d (y ∷ l) e = split (p y) (λ q. simp q) (λ q. simp q (place_find d l (rw q at e)))

  pub place_passes : (d : A) (l : List A) → any p l ≡ true → p (get_or l (place_of p l) d) ≡ true
  place_passes d l e = (find_in l (place_find d l e)).1

-- ---- tests that agree on the elements give the same
module _ {A : Type 0} (p q : A → Bool) where
  pub any_same : (l : List A) → ((x : A) → x ∈ l → p x ≡ q x) → any p l ≡ any q l
  any_same [] f = refl
  any_same (y ∷ l) f = rw (f y (here refl), any_same l (λ x h. f x (there h)))

  pub all_same : (l : List A) → ((x : A) → x ∈ l → p x ≡ q x) → all p l ≡ all q l
  all_same [] f = refl
  all_same (y ∷ l) f = rw (f y (here refl), all_same l (λ x h. f x (there h)))

  pub find_same : (l : List A) → ((x : A) → x ∈ l → p x ≡ q x) → find p l ≡ find q l
  find_same [] f = refl
  find_same (y ∷ l) f = rw (f y (here refl), find_same l (λ x h. f x (there h)))

  pub keep_same : (l : List A) → ((x : A) → x ∈ l → p x ≡ q x) → keep p l ≡ keep q l
  keep_same [] f = refl
  keep_same (y ∷ l) f = rw (f y (here refl), keep_same l (λ x h. f x (there h)))

  -- ---- what passes among what was kept: the two tests in one
  pub any_keep : (l : List A) → any p (keep q l) ≡ any (λ x. q x && p x) l
  any_keep [] = refl
  any_keep (y ∷ l) = split (q y) (λ e. simp (e, any_keep l)) (λ e. simp (e, any_keep l))

  pub keep_keep : (l : List A) → keep p (keep q l) ≡ keep (λ x. q x && p x) l
  keep_keep [] = refl
  keep_keep (y ∷ l) = split (q y) (λ e. simp (e, keep_keep l)) (λ e. simp (e, keep_keep l))

  pub find_both : (l : List A) → find p (keep q l) ≡ find (λ x. q x && p x) l
  find_both [] = refl
  find_both (y ∷ l) = split (q y) (λ e. simp (e, find_both l)) (λ e. simp (e, find_both l))

-- ---- tests of what a function makes of the elements
module _ {A B : Type 0} (f : A → B) (p : B → Bool) where
  pub any_map : (l : List A) → any p (map f l) ≡ any (λ x. p (f x)) l
  any_map [] = refl
  any_map (y ∷ l) = rw (any_map l)

  pub all_map : (l : List A) → all p (map f l) ≡ all (λ x. p (f x)) l
  all_map [] = refl
  all_map (y ∷ l) = rw (all_map l)

  pub keep_map : (l : List A) → keep p (map f l) ≡ map f (keep (λ x. p (f x)) l)
  keep_map [] = refl
  keep_map (y ∷ l) = split (p (f y)) (λ e. simp (e, keep_map l)) (λ e. simp (e, keep_map l))

  pub find_map : (l : List A) → find p (map f l) ≡ option_map f (find (λ x. p (f x)) l)
  find_map [] = refl
  find_map (y ∷ l) = split (p (f y)) (λ e. simp e) (λ e. simp e (find_map l))

-- ---- a table with a key: at most one element passes. What is found after a removal, and after one more at the end
abbrev pub Once : {A : Type 0} → (A → Bool) → List A → Type 0
Once p [] = Unit {0}
Once p (x ∷ l) = (p x ≡ true → any p l ≡ false) × Once p l

-- what was found, if it passes another test
abbrev pub only : {A : Type 0} → (A → Bool) → Option A → Option A
only q None = None
only q (Some x) = cond (q x) (Some x) None

module _ {A : Type 0} (p : A → Bool) where
  pub find_once : {x : A} {l : List A} → Once p l → x ∈ l → p x ≡ true → find p l ≡ Some x
  find_once {l = []} o h e = elim h [ ]
  find_once {l = y ∷ l} o (here h) e = rw (sym (ap p h) ∙ e) (ap Some (sym h))
  find_once {l = y ∷ l} o (there h) e =
      split (p y) (λ q. clashes e (any_none p (o.0 q) h)) (λ q. rw q (find_once o.1 h e))

  pub none_kept : (q : A → Bool) (l : List A) → any p l ≡ false → any p (keep q l) ≡ false
  none_kept q l e = none_any p (keep q l) (λ x h. any_none p e (from_keep q l h).0)

  pub find_keep : (q : A → Bool) (l : List A) → Once p l → find p (keep q l) ≡ only q (find p l)
  find_keep q [] o = refl
  find_keep q (y ∷ l) o =
      split
      (p y)
      (λ e. split (q y) (λ f. simp (e, f)) (λ f. simp (e, f) (none_find p (keep q l) (λ x h. any_none p (o.0 e) (from_keep q l h).0))))
      (λ e. split (q y) (λ f. simp (e, f) (find_keep q l o.1)) (λ f. simp (e, f) (find_keep q l o.1)))

  -- a removal that spares all that pass, or that takes them all
  pub find_kept : (q : A → Bool) (l : List A) → ((x : A) → x ∈ l → p x ≡ true → q x ≡ true) → find p (keep q l) ≡ find p l
  find_kept q l f =
      find_both p q l
      ∙ find_same (λ x. q x && p x) p l (λ x h. split (p x) (λ e. simp (e, f x h e)) (λ e. simp (e, Bool.and-false)))

  pub find_gone : (q : A → Bool) (l : List A) → ((x : A) → x ∈ l → p x ≡ true → q x ≡ false) → find p (keep q l) ≡ None
  find_gone q l f =
      none_find p (keep q l) (λ x h. let r = from_keep q l h in split (p x) (λ e. clashes r.1 (f x r.0 e)) (λ e. e))

  pub once_keep : (q : A → Bool) (l : List A) → Once p l → Once p (keep q l)
  once_keep q [] o = tt
  once_keep q (y ∷ l) o =
      split (q y) (λ e. rw e (λ f. none_kept q l (o.0 f), once_keep q l o.1)) (λ e. rw e (once_keep q l o.1))

  pub find_put : (l : List A) (y : A) → (p y ≡ true → find p l ≡ None) → find p (l ++ (y ∷ [])) ≡ cond (p y) (Some y) (find p l)
  find_put l y f =
      find_append p l (y ∷ [])
      ∙ split
      (p y)
      (λ e. simp (e, sym (find_any p l) ∙ ap is_some (f e)))
      (λ e. split (any p l) (λ g. simp (e, g)) (λ g. simp (e, g) (sym (none_find p l (λ x h. any_none p g h)))))

  pub once_last : (l : List A) (y : A) → (p y ≡ true → any p l ≡ false) → Once p l → Once p (l ++ (y ∷ []))
  once_last [] y f o = (λ e. refl, tt)
  once_last (x ∷ l) y f o =
      let r : p y ≡ true → (p x ≡ false) × (any p l ≡ false) = λ e. or_false (p x) (any p l) (f e) in (
        λ e.
            let n : p y ≡ false = split (p y) (λ g. clashes e (r g).0) (λ g. g) in
            any_append p l (y ∷ []) ∙ rw (o.0 e, n),
        once_last l y (λ e. (r e).1) o.1,
      )

  -- a table of which no two elements are related has at most one of those that are all related
  pub once_pairs : (f : A → A → Bool) (l : List A) → ((x y : A) → p x ≡ true → p y ≡ true → f x y ≡ true) → pairs f l ≡ false → Once p l
  unfolding pairs
  once_pairs f [] k e = tt
  once_pairs f (x ∷ l) k e =
      let r = or_false (any (f x) l) (pairs f l) e in (
        λ h. none_any p l (λ y i. split (p y) (λ g. clashes (k x y h g) (any_none (f x) r.0 i)) (λ g. g)),
        once_pairs f l k r.1,
      )

-- ---- an element and a later one that are related
shuffle : (a b c d e : Bool) → (a || b) || (c || (d || e)) ≡ (a || c) || (d || (b || e))
shuffle true b c d e = refl
shuffle false true true d e = refl
shuffle false true false true e = refl
shuffle false true false false e = refl
shuffle false false c d e = refl

module _ {A : Type 0} (f : A → A → Bool) where
  pub in_pairs : (l : List A) → pairs f l ≡ true → (x : A) × (y : A) × (x ∈ l) × (y ∈ l) × (f x y ≡ true)
  unfolding pairs
  in_pairs [] e = clashes e refl
  in_pairs (z ∷ l) e =
      ⊎_elim
      (λ h. let r = in_any (f z) l h in (z, r.0, here refl, there r.1, r.2))
      (λ h. let r = in_pairs l h in (r.0, r.1, there r.2, there r.3, r.4))
      (or_true (any (f z) l) (pairs f l) e)

  pub none_pairs : (l : List A) → ((x y : A) → x ∈ l → y ∈ l → f x y ≡ false) → pairs f l ≡ false
  none_pairs l k =
      split (pairs f l) (λ h. let r = in_pairs l h in clashes r.4 (k r.0 r.1 r.2 r.3)) (λ h. h)

  pub pairs_one : {x y : A} (l : List A) → pairs f l ≡ false → x ∈ l → y ∈ l → f x y ≡ true → f y x ≡ true → x ≡ y
  unfolding pairs
  pairs_one [] e h k s t = elim h [ ]
  pairs_one {x} {y} (z ∷ l) e h k s t =
      let r = or_false (any (f z) l) (pairs f l) e in
      ⊎_elim
      (λ a. ⊎_elim (λ b. a ∙ sym b) (λ b. clashes (rw a at s) (any_none (f z) r.0 b)) (in_cons k))
      (λ a. ⊎_elim (λ b. clashes (rw b at t) (any_none (f z) r.0 a)) (λ b. pairs_one l r.1 a b s t) (in_cons k))
      (in_cons h)

  pub pairs_append : (l m : List A) → pairs f (l ++ m) ≡ pairs f l || (pairs f m || any (λ x. any (f x) m) l)
  unfolding pairs
  pairs_append [] m = sym (Bool.or-false (pairs f m))
  pairs_append (x ∷ l) m =
      rw (any_append (f x) l m, pairs_append l m) (shuffle (any (f x) l) (any (f x) m) (pairs f l) (pairs f m) (any (λ x. any (f x) m) l))

  pub pairs_last : (l : List A) (y : A) → pairs f (l ++ (y ∷ [])) ≡ pairs f l || any (λ x. f x y) l
  unfolding pairs
  pairs_last l y =
      pairs_append l (y ∷ []) ∙ rw (any_same (λ x. f x y || false) (λ x. f x y) l (λ x h. Bool.or-false (f x y)))

  pub pairs_keep : (p : A → Bool) (l : List A) → pairs f l ≡ false → pairs f (keep p l) ≡ false
  unfolding pairs
  pairs_keep p [] e = refl
  pairs_keep p (x ∷ l) e =
      let r = or_false (any (f x) l) (pairs f l) e in
      let t = pairs_keep p l r.1 in
      split (p x) (λ q. rw (q, none_kept (f x) p l r.0, t)) (λ q. rw (q, t))

  pub pairs_different : (l : List A) → ((x : A) → f x x ≡ true) → pairs f l ≡ false → Different l
  unfolding pairs Different
  pairs_different [] k e = tt
  pairs_different (x ∷ l) k e =
      let r = or_false (any (f x) l) (pairs f l) e in
      (λ h. clashes (k x) (any_none (f x) r.0 h), pairs_different l k r.1)

pub pairs_map : {A B : Type 0} (g : A → B) (f : B → B → Bool) (l : List A) → pairs f (map g l) ≡ pairs (λ x y. f (g x) (g y)) l
unfolding pairs
pairs_map g f [] = refl
pairs_map g f (x ∷ l) = rw (any_map g (f (g x)) l, pairs_map g f l)

-- ---- lists of different elements
pub different_keep : {A : Type 0} (p : A → Bool) (l : List A) → Different l → Different (keep p l)
unfolding Different
different_keep p [] d = tt
different_keep p (x ∷ l) d =
    split (p x) (λ q. rw q (λ h. d.0 (from_keep p l h).0, different_keep p l d.1)) (λ q. rw q (different_keep p l d.1))

pub different_append : {A : Type 0} (l m : List A) → Different l → Different m → ((x : A) → x ∈ l → x ∈ m → ⊥) → Different (l ++ m)
unfolding Different
different_append [] m d e k = e
different_append (x ∷ l) m d e k =
    (λ h. ⊎_elim d.0 (k x (here refl)) (in_append l h), different_append l m d.1 e (λ y h. k y (there h)))

pub append_different : {A : Type 0} (l m : List A) → Different (l ++ m) → (Different l) × (Different m) × ((x : A) → x ∈ l → x ∈ m → ⊥)
unfolding Different
append_different [] m d = (tt, d, λ x h k. elim h [ ])
append_different (y ∷ l) m d =
    let r = append_different l m d.1 in (
      (λ h. d.0 (in_left m h), r.0),
      r.1,
      λ x h k. ⊎_elim (λ e. d.0 (in_right l (subst (λ z. z ∈ m) e k))) (λ i. r.2 x i k) (in_cons h),
    )

pub different_map : {A B : Type 0} (f : A → B) (l : List A) → ((x y : A) → x ∈ l → y ∈ l → f x ≡ f y → x ≡ y) → Different l → Different (map f l)
unfolding Different
different_map f [] k d = tt
different_map f (x ∷ l) k d = (
  λ h. let r = from_map f l h in d.0 (subst (λ z. z ∈ l) (sym (k x r.0 (here refl) (there r.1) r.2)) r.1),
  different_map f l (λ y z h i. k y z (there h) (there i)) d.1,
)
