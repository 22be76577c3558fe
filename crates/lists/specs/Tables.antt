-- A counted table: an array of a fixed size, of which the first elements are in use.
use Rattle.lists.specs.declared.Table.{Table}
use Rattle.std.specs.Prelude.{ℕ, ◌-◌, List, ◌++◌, length, replicate}

-- a list, and blanks after it up to a size
abbrev pub pad : {A : Type 0} → A → ℕ → List A → List A
pad blank size l = l ++ replicate (size - length l) blank

-- a table that holds a list
abbrev pub filled : {A : Type 0} {n : ℕ} → A → ℕ → List A → Table A n
filled blank size l = record { count = length l; items = pad blank size l }
