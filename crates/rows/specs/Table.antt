-- The table of rows, in the types of the code.
use Rattle.std.specs.Prelude.{List}
use Rattle.lists.specs.declared.Table.{Table}
use Rattle.lists.specs.Tables.{filled}
use Rattle.paper.specs.Rows.{row_by}
use Rattle.paper.specs.declared.state.Ground.TheVariants.{GroundA}
use Rattle.paper.specs.declared.state.Row.{Row}

abbrev pub Rows : Type 0
Rows = Table Row 96

abbrev pub no_row : Row
no_row = row_by 0 0 0 GroundA

abbrev pub row_table : List Row → Rows
row_table l = filled no_row 96 l
