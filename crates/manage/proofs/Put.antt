-- What a page puts, and the ACEs that the pages put one after the other, as long as there is room.
use Prim.Native.Nat.{ℕ, ◌+◌, ◌≤◌, ◌<◌}
use mathlib.Core.Path.{◌≡◌, refl, ap, sym, ◌∙◌}
use mathlib.Core.List.{List, [], ◌∷◌, ◌++◌}
use mathlib.Core.Bool.{Bool, true, false, cond, not, ◌&&◌, ◌||◌}
use mathlib.Core.Bool as Bool
use native.Mathlib.Omega.{arith}
use lib.ListN.{length, take, set}
use lib.Dec.{ltb, eqb-suc-zero}
use borrow.Author.Tests.{le-ltb}
use Rattle.std.specs.Prelude.{Option, Some, None, Result, Ok, Err}
use Rattle.std.specs.Result.{is_ok}
use Rattle.lists.specs.Lists.{any, gather}
use Rattle.lists.specs.declared.Table.{Table}
use Rattle.lists.proofs.Tests.{split, clashes}
use Rattle.lists.proofs.Tables.{take_pad}
use Rattle.lists.proofs.Members.{any_append}
use Rattle.paper.specs.Sizes.{id_size}
use Rattle.paper.specs.Contents.{these, everything, holds_nothing}
use Rattle.paper.specs.Tables.{Acl, no_luacd, no_ace, ace_of}
use Rattle.paper.specs.Pages.{page_code, page_type, kept_id, descriptor_run, page_luacds, is_grant}
use Rattle.paper.specs.Commands.{many_luacds}
use Rattle.paper.specs.declared.state.IdType.{IdType}
use Rattle.paper.specs.declared.state.Luacd.{Luacd}
use Rattle.paper.specs.declared.state.Ace.{Ace}
use Rattle.paper.specs.declared.answers.Condition.{Condition}
use Rattle.paper.specs.declared.answers.Condition.TheVariants.{NoRoom}
use Rattle.manage.specs.EndState.{grant_of, new_aces, crowded}
use Rattle.manage.specs.Luacds.{luacds_in, listed_in}
use Rattle.manage.specs.Aces.{put_of, put_listed, fitted}
use Rattle.manage.proofs.Filling.{Filling, fill_more, fill_skip, fill_full, fill_all, fill_fits, fill_end}

-- ---- one page
-- what is put by a table of LUACDs, if they have room in it
abbrev pub put_table : IdType → List ℕ → Result (Table Luacd 16) Condition → Result (Option Ace) Condition
put_table k id (Ok t) = Ok (put_listed k id (take t.count t.items))
put_table k id (Err e) = Err e

listed_put : (k : IdType) (id : List ℕ) (ls : List Luacd) → put_of (cond (not (holds_nothing (these ls))) (ace_of k id (these ls) ∷ []) []) ≡ put_table k id (listed_in ls)
unfolding put_listed listed_in put_of
listed_put k id [] = refl
listed_put k id (p ∷ ps) =
    let ls = p ∷ ps in
    split
    (ltb 16 (length ls))
    (λ e. rw e)
    (λ e.
    let whole : ◌≡◌ {A = Result (Option Ace) Condition} (Ok (Some (ace_of k id (these ls)))) (Ok (put_listed k id ls)) = rw (eqb-suc-zero (length ps)) in
    rw e (whole ∙ ap (λ l. Ok (put_listed k id l)) (sym (take_pad no_luacd 16 ls))))

module _ (luns page : List ℕ) where
  pub put_00 : page_code page ≡ 0 → put_of (new_aces luns page) ≡ put_table (page_type page) (kept_id page) (listed_in (luacds_in luns (descriptor_run id_size page)))
  unfolding new_aces luacds_in page_luacds
  put_00 e = rw e (listed_put (page_type page) (kept_id page) (page_luacds luns page))

  pub put_01 : page_code page ≡ 1 → ◌≡◌ {A = Result (Option Ace) Condition} (Ok (Some (ace_of (page_type page) (kept_id page) everything))) (put_of (new_aces luns page))
  unfolding new_aces put_of
  put_01 e = rw e

  pub put_other : (page_code page ≡ 0 → ⊥) → (page_code page ≡ 1 → ⊥) → ◌≡◌ {A = Result (Option Ace) Condition} (Ok None) (put_of (new_aces luns page))
  unfolding new_aces put_of
  put_other h k = rw (le-ltb (page_code page) 2 (omega arith))

  short : length (new_aces luns page) ≤ 1
  unfolding new_aces
  short =
      split
      (is_grant page && not (holds_nothing (grant_of luns page)))
      (λ e. rw e (omega arith))
      (λ e. rw e (omega arith))

-- ---- what a list of one ACE at most puts
put_none : (l : List Ace) → put_of l ≡ Ok None → l ≡ []
unfolding put_of
put_none [] h = refl
put_none (a ∷ l) h =
    split
    (many_luacds a)
    (λ e. clashes refl (sym (ap is_ok (rw e at h))))
    (λ e. absurd (none_is_some (rw e at h)))
  where
    none_is_some : {x : Ace} → ◌≡◌ {A = Result (Option Ace) Condition} (Ok (Some x)) (Ok None) → ⊥
    none_is_some e = let z : ◌≡◌ {A = ℕ} 0 1 = cc in omega arith

put_one : (l : List Ace) {a : Ace} → length l ≤ 1 → put_of l ≡ Ok (Some a) → (l ≡ a ∷ []) × (any many_luacds l ≡ false)
unfolding put_of
put_one [] h p = absurd (none_is_some p)
  where
    none_is_some : {x : Ace} → ◌≡◌ {A = Result (Option Ace) Condition} (Ok None) (Ok (Some x)) → ⊥
    none_is_some e = let z : ◌≡◌ {A = ℕ} 0 1 = cc in omega arith
put_one (a ∷ (b ∷ l)) h p = absurd (omega arith)
put_one (x ∷ []) {a} h p =
    split
    (many_luacds x)
    (λ e. clashes (ap is_ok (rw e at p)) refl)
    (λ e. let q : ◌≡◌ {A = Result (Option Ace) Condition} (Ok (Some x)) (Ok (Some a)) = rw e at p in
    let same : x ≡ a = cc in (ap (λ y. y ∷ []) same, rw e))

put_many : (l : List Ace) {k : Condition} → put_of l ≡ Err k → (any many_luacds l ≡ true) × (k ≡ NoRoom)
unfolding put_of
put_many [] h = clashes refl (ap is_ok h)
put_many (a ∷ l) {k} h =
    split
    (many_luacds a)
    (λ e. let q : ◌≡◌ {A = Result (Option Ace) Condition} (Err NoRoom) (Err k) = rw e at h in
    let same : k ≡ NoRoom = cc in (rw e, same))
    (λ e. clashes refl (ap is_ok (rw e at h)))

-- ---- page after page: the ACEs so far, and those of the pages that are left, are together the target
pub record Putting (target : List Ace) (luns : List ℕ) (acl : Acl) (pages : List (List ℕ)) : Type 0 where
  pub sofar : List Ace
  pub filling : Filling no_ace target sofar (gather (new_aces luns) pages) acl
  pub small : any many_luacds sofar ≡ false

module _ {target : List Ace} {luns : List ℕ} {acl : Acl} {pages : List (List ℕ)} (s : Putting target luns acl pages) where
  -- one more page
  module _ {p : List ℕ} {others : List (List ℕ)} (e : pages ≡ p ∷ others) where
    next : gather (new_aces luns) pages ≡ new_aces luns p ++ gather (new_aces luns) others
    next = rw e

    pub put_skips : put_of (new_aces luns p) ≡ Ok None → Putting target luns acl others
    put_skips h =
        record {
          sofar = s.sofar;
          filling = fill_skip s.filling (next ∙ rw (put_none (new_aces luns p) h));
          small = s.small;
        }

    module _ {a : Ace} (h : put_of (new_aces luns p) ≡ Ok (Some a)) where
      one : (new_aces luns p ≡ a ∷ []) × (any many_luacds (new_aces luns p) ≡ false)
      one = put_one (new_aces luns p) (short luns p) h

      turn : gather (new_aces luns) pages ≡ a ∷ gather (new_aces luns) others
      turn = next ∙ rw (one.0)

      pub put_adds : {acl' : Acl} → acl.count < 32 → acl' ≡ record { count = acl.count + 1; items = set acl.items acl.count a } → Putting target luns acl' others
      put_adds f u =
          record {
            sofar = s.sofar ++ (a ∷ []);
            filling = fill_more s.filling turn f u;
            small = any_append many_luacds s.sofar (a ∷ []) ∙ ap (λ b. any many_luacds s.sofar || b) (ap (any many_luacds) (sym one.0) ∙ one.1) ∙ rw s.small;
          }

      -- a 33rd has no room
      pub put_33rd : 32 ≤ acl.count → fitted target ≡ Err NoRoom
      unfolding fitted crowded
      put_33rd f = rw (fill_full s.filling turn f)

    -- too many LUACDs in one
    pub put_full : {k : Condition} → put_of (new_aces luns p) ≡ Err k → fitted target ≡ Err k
    unfolding fitted crowded
    put_full h =
        let many = put_many (new_aces luns p) h in
        let later = gather (new_aces luns) others in
        let found : any many_luacds target ≡ true = ap (any many_luacds) (s.filling.whole ∙ ap (λ r. s.sofar ++ r) next) ∙ any_append many_luacds s.sofar (new_aces luns p ++ later) ∙ rw (any_append many_luacds (new_aces luns p) later, many.0, Bool.or-true) in
        rw (found, Bool.or-true, many.1)

  pub put_end : pages ≡ [] → ◌≡◌ {A = Result Acl Condition} (Ok acl) (fitted target)
  unfolding fitted crowded
  put_end h =
      let none : gather (new_aces luns) pages ≡ [] = rw h in
      let small : any many_luacds target ≡ false = ap (any many_luacds) (fill_all s.filling none) ∙ s.small in
      rw (fill_fits s.filling none, small) (ap Ok (fill_end s.filling none))

-- a page puts an ACE, or none
pub ruleset puts = (put_adds, put_skips)
