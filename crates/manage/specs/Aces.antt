-- What a page puts, and the ACEs after a list, if there is room for them.
use Rattle.std.specs.Prelude.{ℕ, ◌≤◌, ◌≡◌, List, [], ◌∷◌, true, false, cond, length, take, eqb, Option, Some, None, Result, Ok, Err}
use Rattle.lists.specs.Lists.{any, all}
use Rattle.paper.specs.Contents.{these}
use Rattle.paper.specs.Tables.{Acl, ace_of, acl_of}
use Rattle.paper.specs.Standing.{few_luacds}
use Rattle.paper.specs.Commands.{many_luacds}
use Rattle.paper.specs.declared.state.IdType.{IdType}
use Rattle.paper.specs.declared.state.Luacd.{Luacd}
use Rattle.paper.specs.declared.state.Ace.{Ace}
use Rattle.paper.specs.declared.answers.Condition.{Condition}
use Rattle.paper.specs.declared.answers.Condition.TheVariants.{NoRoom}
use Rattle.manage.specs.EndState.{aces_after, acl_after, crowded}

-- ---- one page
-- the list has one ACE at most
unfoldable pub put_of : List Ace → Result (Option Ace) Condition
put_of [] = Ok None
put_of (a ∷ l) = cond (many_luacds a) (Err NoRoom) (Ok (Some a))

-- a list without LUACDs is no ACE
unfoldable pub put_listed : IdType → List ℕ → List Luacd → Option Ace
put_listed k id luacds = cond (eqb (length luacds) 0) None (Some (ace_of k id (these luacds)))

-- ---- all pages
-- a table whose unused entries are blank, with room in every ACE
pub record Uncrowded (acl : Acl) : Type 0 where
  pub blank : acl ≡ acl_of (take acl.count acl.items)
  pub few : acl.count ≤ 32
  pub small : any many_luacds (take acl.count acl.items) ≡ false

-- "a count over its size" it has not
pub record Sized (acl : Acl) : Type 0 where
  pub few : acl.count ≤ 32
  pub small : all few_luacds (take acl.count acl.items) ≡ true

-- ACEs as an ACL, or that it has no room for them
unfoldable pub fitted : List Ace → Result Acl Condition
fitted aces = cond (crowded aces) (Err NoRoom) (Ok (acl_of aces))

-- the same for the whole ACL, which is as it was without a grant page
unfoldable pub fitted_after : List ℕ → List (List ℕ) → Acl → Result Acl Condition
fitted_after luns pages acl =
    cond (crowded (aces_after luns pages (take acl.count acl.items))) (Err NoRoom) (Ok (acl_after luns pages acl))
