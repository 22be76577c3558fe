-- Laws of lists and of bytes that the laws of tables, rows and history need. Nothing of SCSI.
use Prim.Native.Nat.{ℕ, zero, suc, ◌<◌}
use mathlib.Core.Path.{◌≡◌, refl, ap, ap₂, sym, ◌∙◌, subst}
use mathlib.Core.List.{List, [], ◌∷◌, ◌++◌}
use Rattle.std.specs.Prelude.{Option, Some, None, option_map}
use mathlib.Core.Bool.{Bool, true, false, cond, ◌&&◌}
use mathlib.Core.Logic.{◌⊎◌, inl, inr, ⊎_elim}
use native.Mathlib.Omega.{arith}
use lib.ListN.{length, get_or, set}
use lib.Seq.{get_or-set_same, get_or-set_other}
use lib.Dec.{eqb}
use borrow.Author.Tests.{eqb-true, eqb-false}
use Rattle.lists.specs.Lists.{◌∈◌, here, there, find, any, pairs, gather, nth, is_some, Different}
use Rattle.lists.specs.Bytes.{same_bytes}
use Rattle.lists.proofs.Tests.{split, clashes, or_false}
use Rattle.lists.proofs.Members.{in_cons, in_append, from_gather, find_any, any_none, none_any, different_append}

-- what stands at each place after one place was set
pub set_at : {A : Type 0} (d : A) (l : List A) (i : ℕ) (x : A) (j : ℕ) → i < length l → get_or (set l i x) j d ≡ cond (eqb i j) x (get_or l j d)
set_at d l i x j h =
    split
    (eqb i j)
    (λ q. rw q (rw (← (eqb-true i j q)) (get_or-set_same l i x d h)))
    (λ q. rw q (get_or-set_other l i j x d (λ k. eqb-false i j q (sym k))))

-- what is in the list then
pub from_set : {A : Type 0} (l : List A) (i : ℕ) (y : A) {x : A} → x ∈ set l i y → (x ≡ y) ⊎ (x ∈ l)
from_set [] i y h = inr h
from_set (z ∷ l) zero y h = ⊎_elim (λ e. inl e) (λ m. inr (there m)) (in_cons h)
from_set (z ∷ l) (suc i) y h =
    ⊎_elim (λ e. inr (here e)) (λ m. ⊎_elim (λ e. inl e) (λ n. inr (there n)) (from_set l i y m)) (in_cons h)

-- what holds of each element, and of one more, holds of each with it at the end
pub each_last : {A : Type 0} (P : A → Type 0) (l : List A) (y : A) → ((x : A) → x ∈ l → P x) → P y → (x : A) → x ∈ (l ++ (y ∷ [])) → P x
each_last P l y f p x h =
    ⊎_elim (λ m. f x m) (λ m. ⊎_elim (λ e. subst P (sym e) p) (λ z. elim z [ ]) (in_cons m)) (in_append l h)

-- the element at a place within the list
pub nth_at : {A : Type 0} (d : A) (l : List A) (i : ℕ) → i < length l → nth l i ≡ Some (get_or l i d)
unfolding nth
nth_at d [] i h = absurd (omega arith)
nth_at d (x ∷ l) zero h = refl
nth_at d (x ∷ l) (suc i) h = nth_at d l i (omega arith)

-- what one search finds, or else another
abbrev pub first_of : {A : Type 0} → Option A → Option A → Option A
first_of None o = o
first_of (Some x) o = Some x

pub find_first : {A : Type 0} (p : A → Bool) (l m : List A) → find p (l ++ m) ≡ first_of (find p l) (find p m)
find_first p [] m = refl
find_first p (x ∷ l) m = split (p x) (λ e. rw e) (λ e. rw e (find_first p l m))

pub map_first : {A B : Type 0} (f : A → B) (a b : Option A) → option_map f (first_of a b) ≡ first_of (option_map f a) (option_map f b)
map_first f None b = refl
map_first f (Some x) b = refl

-- a list that nothing is in
pub no_member : {A : Type 0} (l : List A) → ((x : A) → x ∈ l → ⊥) → l ≡ []
no_member [] n = refl
no_member (x ∷ l) n = absurd (n x (here refl))

-- a search that finds nothing
pub find_nothing : {A : Type 0} (p : A → Bool) (l : List A) → find p l ≡ None → any p l ≡ false
find_nothing p l e = sym (find_any p l) ∙ ap is_some e

-- what is not there
pub is_none : {A : Type 0} (o : Option A) → is_some o ≡ false → o ≡ None
is_none None e = refl
is_none (Some x) e = clashes refl e

-- what is there
pub some_there : {A : Type 0} (o : Option A) → is_some o ≡ true → (x : A) × (o ≡ Some x)
some_there None e = clashes e refl
some_there (Some x) e = (x, refl)

-- ---- lists of lists
pub gather_same : {A B : Type 0} (f g : A → List B) (l : List A) → ((x : A) → x ∈ l → f x ≡ g x) → gather f l ≡ gather g l
gather_same f g [] e = refl
gather_same f g (x ∷ l) e = rw (e x (here refl), gather_same f g l (λ y k. e y (there k)))

-- of which no two share an element
pub different_gather : {A B : Type 0} (f : A → List B) (l : List A) → Different l → ((x : A) → x ∈ l → Different (f x)) → ((x y : A) (z : B) → z ∈ f x → z ∈ f y → x ≡ y) → Different (gather f l)
unfolding Different
different_gather f [] d e k = tt
different_gather f (x ∷ l) d e k =
    different_append (f x) (gather f l) (e x (here refl)) (different_gather f l d.1 (λ y h. e y (there h)) k)
    (λ z h i. let g = from_gather f l i in d.0 (rw (k x g.0 z h g.2) g.1))

-- ---- fewer are related by one test than by another
pub pairs_less : {A : Type 0} (f g : A → A → Bool) (l : List A) → ((x y : A) → x ∈ l → y ∈ l → g x y ≡ true → f x y ≡ true) → pairs f l ≡ false → pairs g l ≡ false
unfolding pairs
pairs_less f g [] k e = refl
pairs_less f g (x ∷ l) k e =
    let r = or_false (any (f x) l) (pairs f l) e in
    rw (
      none_any (g x) l (λ y i. split (g x y) (λ q. clashes (k x y (here refl) (there i) q) (any_none (f x) r.0 i)) (λ q. q)),
      pairs_less f g l (λ y z h i. k y z (there h) (there i)) r.1,
    )

-- ---- runs of bytes: a comparison reads no more of them than it compares
pub same_like : (n : ℕ) (a b c d : List ℕ) → ((i : ℕ) → i < n → get_or a i 0 ≡ get_or c i 0) → ((i : ℕ) → i < n → get_or b i 0 ≡ get_or d i 0) → same_bytes n a b ≡ same_bytes n c d
unfolding same_bytes
same_like zero a b c d f g = refl
same_like (suc n) a b c d f g =
    ap₂ ◌&&◌
    (same_like n a b c d (λ i l. f i (omega arith)) (λ i l. g i (omega arith)))
    (ap₂ eqb (f n (omega arith)) (g n (omega arith)))
