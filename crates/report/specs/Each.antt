-- A writer of entries: it is handed a buffer, a place in it and an entry, writes the entry there and tells where it ended.
use Rattle.std.specs.Prelude.{ℕ, ◌+◌, ◌*◌, ◌≤◌, List, length}
use Rattle.std.specs.Fn.{Shared}
use denote.Ref.{Bor, MutBor}
use Rattle.lists.specs.Lists.{◌∈◌}
use Rattle.wire.specs.Write.{Wrote}

abbrev pub Writer : Type 0 → Type 0 → Type 1
Writer F A = Shared F (MutBor (List ℕ) × (ℕ × (Bor A × Unit {0}))) (ℕ × (MutBor (List ℕ) × Unit {0}))

-- it ends so many bytes behind the place at most
abbrev pub EndsBy : {F A : Type 0} → Writer F A → F → ℕ → List A → Type 0
EndsBy {A = A} g f most xs =
    (buf left : MutBor (List ℕ)) (to next : ℕ) (x : Bor A) → x.now ∈ xs → g.post f (buf, (to, (x, tt))) (next, (left, tt)) → next ≤ to + most

-- there is room for all entries from a place on, and the writer writes each where it has its room
pub record Fits {F A : Type 0} (g : Writer F A) (f : F) (at : ℕ) (xs : List A) : Type 0 where
  pub most : ℕ
  pub room : at + most * length xs ≤ 4294967296
  pub takes : (buf : MutBor (List ℕ)) (to : ℕ) (x : Bor A) → x.now ∈ xs → to + most ≤ 4294967296 → g.pre f (buf, (to, (x, tt)))
  pub ends : EndsBy g f most xs

-- it writes what `bytes` says of each entry
abbrev pub WritesEach : {F A : Type 0} → Writer F A → F → ℕ → (A → List ℕ) → List A → Type 0
WritesEach {A = A} g f limit bytes xs =
    (buf left : MutBor (List ℕ)) (to next : ℕ) (x : Bor A) → x.now ∈ xs → g.post f (buf, (to, (x, tt))) (next, (left, tt)) → Wrote limit to (bytes x.now) buf.now next left.now
