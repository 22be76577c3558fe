-- Laws of parts of one size, of lists that elements give, and of numbers that are counted.
use Prim.Native.Nat.{ℕ, zero, suc, ◌+◌, ◌*◌, ◌≤◌, ◌<◌, ◌-◌}
use mathlib.Core.Path.{◌≡◌, refl, ap, sym, ◌∙◌}
use mathlib.Core.List.{List, [], ◌∷◌, ◌++◌, map, append_assoc}
use mathlib.Core.Bool.{Bool, cond}
use mathlib.Core.Logic.{⊎_elim}
use native.Mathlib.Omega.{arith}
use native.Mathlib.Nat.{add-zero, zero-add, suc-add, mul-zero, mul-suc, add_comm, eq-or-lt_of_le}
use lib.ListN.{length, get_or, take, drop, length-append}
use lib.Seq.{drop-drop, take-add, take_at, drop_at}
use Rattle.lists.specs.Lists.{◌∈◌, here, there, any, gather, parts, count, Different, keep}
use Rattle.lists.proofs.Members.{in_cons, any_append}
use Rattle.lists.proofs.Tests.{split}

-- ---- the lists that the elements give, one after the other
module _ {A B : Type 0} (f : A → List B) where
  pub gather_append : (l m : List A) → gather f (l ++ m) ≡ gather f l ++ gather f m
  gather_append [] m = refl
  gather_append (x ∷ l) m = rw (gather_append l m) (sym (append_assoc (f x) (gather f l) (gather f m)))

  pub any_gather : (p : B → Bool) (l : List A) → any p (gather f l) ≡ any (λ x. any p (f x)) l
  any_gather p [] = refl
  any_gather p (x ∷ l) = any_append p (f x) (gather f l) ∙ rw (any_gather p l)

  pub length_gather : (size : ℕ) (l : List A) → ((x : A) → x ∈ l → length (f x) ≡ size) → length (gather f l) ≡ size * length l
  length_gather size [] h = sym (mul-zero size)
  length_gather size (x ∷ l) h =
      length-append (f x) (gather f l)
      ∙ rw (h x (here refl), length_gather size l (λ y k. h y (there k)), mul-suc) (add_comm size (size * length l))

-- ---- parts: how many, each of them, and those of records that were laid one after the other
pub length_parts : {A : Type 0} (size n : ℕ) (l : List A) → length (parts size n l) ≡ n
unfolding parts
length_parts size zero l = refl
length_parts size (suc n) l = ap suc (length_parts size n (drop size l))

pub get_or_parts : {A : Type 0} (size n : ℕ) (l : List A) (i : ℕ) (d : List A) → i < n → get_or (parts size n l) i d ≡ take size (drop (size * i) l)
unfolding parts
get_or_parts size zero l i d h = absurd (omega arith)
get_or_parts size (suc n) l zero d h = rw mul-zero
get_or_parts size (suc n) l (suc i) d h =
    get_or_parts size n (drop size l) i d (omega arith) ∙ rw (drop-drop, mul-suc, add_comm size (size * i))

pub parts_gather : {A B : Type 0} (f : A → List B) (size : ℕ) (xs : List A) (rest : List B) → ((x : A) → x ∈ xs → length (f x) ≡ size) → parts size (length xs) (gather f xs ++ rest) ≡ map f xs
unfolding parts
parts_gather f size [] rest h = refl
parts_gather f size (x ∷ xs) rest h =
    let e = h x (here refl) in
    rw (append_assoc, take_at (f x) (gather f xs ++ rest) size e, drop_at (f x) (gather f xs ++ rest) size e)
    (ap (λ l. f x ∷ l) (parts_gather f size xs rest (λ y k. h y (there k))))

pub gather_parts : {A : Type 0} (size n : ℕ) (l : List A) → gather (λ p. p) (parts size n l) ≡ take (size * n) l
unfolding parts
gather_parts size zero l = rw mul-zero
gather_parts size (suc n) l =
    rw (gather_parts size n (drop size l), mul-suc, add_comm (size * n) size) (sym (take-add size (size * n) l))

-- ---- numbers counted
pub length_count : (k n : ℕ) → length (count k n) ≡ n
unfolding count
length_count k zero = refl
length_count k (suc n) = ap suc (length_count (suc k) n)

pub get_or_count : (k n i d : ℕ) → i < n → get_or (count k n) i d ≡ k + i
unfolding count
get_or_count k zero i d h = absurd (omega arith)
get_or_count k (suc n) zero d h = omega arith
get_or_count k (suc n) (suc i) d h = omega (arith, get_or_count (suc k) n i d (omega arith))

pub count_join : (k n m : ℕ) → count k (n + m) ≡ count k n ++ count (k + n) m
unfolding count
count_join k zero m = rw (zero-add, add-zero)
count_join k (suc n) m =
    let e : suc k + n ≡ k + suc n = omega arith in rw (suc-add, count_join (suc k) n m, e)

pub in_count : {x : ℕ} (k n : ℕ) → k ≤ x → x < k + n → x ∈ count k n
unfolding count
in_count k zero h i = absurd (omega arith)
in_count {x} k (suc n) h i =
    ⊎_elim (λ e. here (sym e)) (λ l. there (in_count (suc k) n l (omega arith))) (eq-or-lt_of_le h)

pub from_count : {x : ℕ} (k n : ℕ) → x ∈ count k n → (k ≤ x) × (x < k + n)
unfolding count
from_count k zero h = elim h [ ]
from_count {x} k (suc n) h =
    ⊎_elim (λ e. omega arith) (λ i. let r = from_count (suc k) n i in omega (arith, r.0, r.1)) (in_cons h)

pub different_count : (k n : ℕ) → Different (count k n)
unfolding count Different
different_count k zero = tt
different_count k (suc n) = (λ h. omega (arith, (from_count (suc k) n h).0), different_count (suc k) n)

-- the parts from a place on: one and the rest
pub parts_next : {A : Type 0} (size n at : ℕ) (l : List A) → 0 < n → parts size n (drop at l) ≡ take size (drop at l) ∷ parts size (n - 1) (drop (at + size) l)
unfolding parts
parts_next size zero at l h = absurd (omega arith)
parts_next size (suc n) at l h = let e : suc n - 1 ≡ n = omega arith in rw (e, drop-drop size at l)

-- what the elements that pass give, one element at a time
pub kept_none : {A B : Type 0} (f : A → List B) (p : A → Bool) → gather f (keep p []) ≡ []
kept_none f p = refl

pub kept_next : {A B : Type 0} (f : A → List B) (p : A → Bool) (x : A) (l : List A) → gather f (keep p (x ∷ l)) ≡ cond (p x) (f x) [] ++ gather f (keep p l)
kept_next f p x l = split (p x) (λ e. simp e) (λ e. simp e)
