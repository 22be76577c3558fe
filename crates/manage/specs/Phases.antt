-- The phases that look at the list and not at the end state, and what a command makes of a verdict.
use Rattle.std.specs.Prelude.{ℕ, ◌≡◌, List, true, false, Result, Ok, Err}
use Rattle.lists.specs.Lists.{any, all}
use Rattle.lists.specs.Pages.{whole_page}
use Rattle.paper.specs.Tables.{units_of}
use Rattle.paper.specs.Standing.{standing}
use Rattle.paper.specs.Pages.{key_in, ace_pages, bad_places}
use Rattle.paper.specs.Commands.{Verdict, fails, passes, wrong_key, malformed}
use Rattle.paper.specs.declared.state.Coordinator.{Coordinator}
use Rattle.paper.specs.declared.answers.Condition.{Condition}

-- a list that passes phases 1 to 4
pub record Passed (c : Coordinator) (list : List ℕ) : Type 0 where
  pub stands : standing c ≡ true
  pub whole : all whole_page (ace_pages list) ≡ true
  pub key : wrong_key c (key_in list) ≡ false
  pub formed : malformed c list ≡ false
  pub placed : any (bad_places (units_of c)) (ace_pages list) ≡ false

-- a value if all tests pass, or the condition of the first that fails
abbrev pub passed : {A : Type 0} → Verdict → A → Result A Condition
passed (fails k) x = Err k
passed passes x = Ok x
