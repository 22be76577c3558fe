-- Rows appended to a table, one after the other.
use Rattle.std.specs.Prelude.{ℕ, ◌+◌, ◌≤◌, List, [], ◌∷◌, ◌≡◌, set}
use Rattle.paper.specs.declared.state.Row.{Row}
use Rattle.rows.specs.Table.{Rows}

abbrev pub pushed_row : Rows → Row → Rows
pushed_row rows r = record { count = rows.count + 1; items = set rows.items rows.count r }

unfoldable pub appended : Rows → List Row → Rows
appended rows [] = rows
appended rows (x ∷ l) = appended (pushed_row rows x) l

-- a table with rows appended, and how many they are at most
pub record Joined (most : ℕ) (rows : Rows) (xs : List Row) (next : Rows) : Type 0 where
  pub is : next ≡ appended rows xs
  pub few : next.count ≤ rows.count + most
