-- What a function does that is handed to another.
use Rattle.std.specs.Prelude.{◌≡◌, Bool}
use Rattle.std.specs.Fn.{Shared, FnReturnsAt, FnReturnsAtPair}
use denote.Ref.{Bor}

-- of each value it makes what m makes
abbrev pub Makes : {F A B : Type 0} → Shared F (Bor A × Unit {0}) B → F → (A → B) → Type 0
Makes {A = A} {B} g f m = (x : A) (r : B) → FnReturnsAt g f x r → r ≡ m x

-- a test: of each value it says what p says
abbrev pub Decides : {F A : Type 0} → Shared F (Bor A × Unit {0}) Bool → F → (A → Bool) → Type 0
Decides {A = A} g f p = (x : A) (r : Bool) → FnReturnsAt g f x r → r ≡ p x

-- of each two values it says what f says
abbrev pub DecidesTwo : {F A : Type 0} → Shared F (Bor A × (Bor A × Unit {0})) Bool → F → (A → A → Bool) → Type 0
DecidesTwo {A = A} g h f = (x y : A) (r : Bool) → FnReturnsAtPair g h x y r → r ≡ f x y
