-- Lists of any element: who is in one, what passes a test, parts of one size. Nothing of SCSI.
use Rattle.std.specs.Prelude.{ℕ, zero, suc, ◌≡◌, List, [], ◌∷◌, Bool, false, cond, ◌||◌, take, drop}
use Rattle.std.specs.Prelude.{Option, Some, None}
use Rattle.std.specs.List.{filter, list_any, list_all, flat_map}
-- the first element that passes; whether something is there
pub use Rattle.std.specs.List.{find}
pub use Rattle.std.specs.Option.{is_some}

infix 4 ◌∈◌
-- an element is in a list
pub data ◌∈◌ {A : Type 0} (x : A) : List A → Type 0 where
  here : {y : A} {l : List A} → x ≡ y → x ∈ (y ∷ l)
  there : {y : A} {l : List A} → x ∈ l → x ∈ (y ∷ l)

-- the place of the first element that passes, or the list's length
unfoldable pub place_of : {A : Type 0} → (A → Bool) → List A → ℕ
place_of p [] = 0
place_of p (x ∷ l) = cond (p x) 0 (suc (place_of p l))

-- the elements that pass, in their order
abbrev pub keep : {A : Type 0} → (A → Bool) → List A → List A
keep = filter

-- whether some element passes
abbrev pub any : {A : Type 0} → (A → Bool) → List A → Bool
any = list_any

-- whether every element passes
abbrev pub all : {A : Type 0} → (A → Bool) → List A → Bool
all = list_all

-- whether some element and a later one are related
unfoldable pub pairs : {A : Type 0} → (A → A → Bool) → List A → Bool
pairs f [] = false
pairs f (x ∷ l) = any (f x) l || pairs f l

-- the lists that each element gives, one after the other
abbrev pub gather : {A B : Type 0} → (A → List B) → List A → List B
gather = flat_map

-- the first n parts of a list, of size elements each
unfoldable pub parts : {A : Type 0} → ℕ → ℕ → List A → List (List A)
parts size zero l = []
parts size (suc n) l = take size l ∷ parts size n (drop size l)

-- n numbers, from k on
unfoldable pub count : ℕ → ℕ → List ℕ
count k zero = []
count k (suc n) = k ∷ count (suc k) n

-- the numbers below n
abbrev pub below : ℕ → List ℕ
below n = count 0 n

-- each element differs from the later ones
unfoldable pub Different : {A : Type 0} → List A → Type 0
Different [] = Unit {0}
Different (x ∷ l) = (x ∈ l → ⊥) × Different l

-- the element at a place, if there is one
unfoldable pub nth : {A : Type 0} → List A → ℕ → Option A
nth [] i = None
nth (x ∷ l) zero = Some x
nth (x ∷ l) (suc i) = nth l i
