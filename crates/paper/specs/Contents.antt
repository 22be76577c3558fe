-- What an ACE holds, and what an enrolment is. Nothing here reads a table.
use Rattle.std.specs.Prelude.{ℕ, suc, List, [], ◌∷◌, Bool, true, false}
use Rattle.paper.specs.declared.state.Luacd.{Luacd}

-- "So an ACE holds either a list or everything."
pub data Content : Type 0 where
  these : List Luacd → Content
  everything : Content

-- "with no LUACD it removes it (H)": a content that is no ACE
abbrev pub holds_nothing : Content → Bool
holds_nothing (these []) = true
holds_nothing (these (p ∷ ps)) = false
holds_nothing everything = false

-- the units from number n on, each at its default LUN
unfoldable pub numbered : ℕ → List ℕ → List Luacd
numbered n [] = []
numbered n (l ∷ ls) = record { lun = l; unit = n } ∷ numbered (suc n) ls

-- "all units, each at its default LUN"
abbrev pub all_units : List ℕ → List Luacd
all_units luns = numbered 0 luns

-- what a content holds, given the units' default LUNs
abbrev pub held : List ℕ → Content → List Luacd
held luns (these ls) = ls
held luns everything = all_units luns

-- "States: not-enrolled, enrolled, pending.", the latter two under an AccessID
pub data Enrolment : Type 0 where
  not_enrolled : Enrolment
  enrolled pending : List ℕ → Enrolment
