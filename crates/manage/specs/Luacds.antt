-- The LUACDs of a page that stand: the first 16 by value, and the table that an ACE has for them.
use Rattle.std.specs.Prelude.{ℕ, ◌+◌, List, map, cond, length, take, set, ltb, Result, Ok, Err}
use Rattle.lists.specs.Tables.{pad, filled}
use Rattle.lists.specs.declared.Table.{Table}
use Rattle.paper.specs.Sizes.{max_luacds}
use Rattle.paper.specs.Tables.{no_luacd}
use Rattle.paper.specs.Pages.{descriptors_in, not_overruled, luacd_of}
use Rattle.paper.specs.declared.state.Luacd.{Luacd}
use Rattle.paper.specs.declared.answers.Condition.{Condition}
use Rattle.paper.specs.declared.answers.Condition.TheVariants.{NoRoom}
use Rattle.manage.specs.declared.luacds.Filled.{Filled}

unfoldable pub luacds_in : List ℕ → List ℕ → List Luacd
luacds_in luns run = map (luacd_of luns) (not_overruled (descriptors_in run))

-- the first 16, and how many there are
unfoldable pub filled_with : List Luacd → Filled
filled_with ls = record { luacds = pad no_luacd max_luacds (take max_luacds ls); count = length ls }

-- one LUACD more; behind the 16th it is counted alone
unfoldable pub joined_to : Filled → Luacd → Filled
joined_to f p =
    record { luacds = cond (ltb f.count max_luacds) (set f.luacds f.count p) f.luacds; count = f.count + 1 }

-- LUACDs as a table, or that it has no room for them
unfoldable pub listed_in : List Luacd → Result (Table Luacd max_luacds) Condition
listed_in ls = cond (ltb max_luacds (length ls)) (Err NoRoom) (Ok (filled no_luacd max_luacds ls))
