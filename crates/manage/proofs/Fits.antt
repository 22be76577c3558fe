-- Phase 5 on the end state: the ACEs after the list fit, or they do not.
use Prim.Native.Nat.{ℕ, ◌≤◌}
use mathlib.Core.Path.{◌≡◌, refl, ap, sym, ◌∙◌}
use mathlib.Core.List.{List, ◌++◌}
use mathlib.Core.Bool.{Bool, true, false, ◌||◌}
use native.Mathlib.Omega.{arith}
use lib.ListN.{length, take, length-take}
use lib.Dec.{ltb}
use borrow.Author.Tests.{leb-true, le-ltb}
use Rattle.lists.specs.Lists.{any, keep, gather}
use Rattle.std.specs.Prelude.{Result, Ok, Err}
use Rattle.std.specs.Result.{is_ok}
use Rattle.lists.proofs.Tests.{split, clashes}
use Rattle.lists.proofs.Tables.{take_pad}
use Rattle.lists.proofs.Members.{all_in, none_any, none_kept, length_keep}
use Rattle.paper.specs.Sizes.{max_aces}
use Rattle.paper.specs.Tables.{no_ace, acl_of, aces_of, units_of}
use Rattle.paper.specs.Standing.{few_luacds}
use Rattle.paper.specs.Pages.{is_grant, ace_pages}
use Rattle.paper.specs.Commands.{many_luacds, too_many}
use Rattle.paper.proofs.Stood.{Counted}
use Rattle.paper.specs.declared.state.Ace.{Ace}
use Rattle.paper.specs.Tables.{Acl}
use Rattle.paper.specs.declared.state.Coordinator.{Coordinator}
use Rattle.paper.specs.declared.answers.Condition.{Condition}
use Rattle.paper.specs.declared.answers.Condition.TheVariants.{NoRoom}
use Rattle.manage.specs.EndState.{unnamed, new_aces, aces_after, acl_after, crowded, granted_with, revoked_by, end_state}
use Rattle.manage.specs.Aces.{Uncrowded, Sized, fitted, fitted_after}
use Rattle.manage.proofs.Grants.{aces_none}

abbrev aces_in : Acl → List Ace
aces_in acl = take acl.count acl.items

module _ (acl : Acl) (s : Sized acl) where
  none_many : any many_luacds (aces_in acl) ≡ false
  none_many =
      none_any many_luacds (aces_in acl) (λ a h. le-ltb 16 a.count (leb-true a.count 16 (all_in few_luacds s.small h)))

  in_room_lem : length (aces_in acl) ≤ 32
  in_room_lem = omega (arith, length-take acl.count acl.items, s.few)

  not_crowded : crowded (aces_in acl) ≡ false
  unfolding crowded
  not_crowded = rw (le-ltb 32 (length (aces_in acl)) in_room_lem, none_many)

  -- what is left of the ACEs, with blanks behind them
  pub kept_uncrowded : (p : Ace → Bool) {left : Acl} → left ≡ acl_of (keep p (aces_in acl)) → Uncrowded left
  kept_uncrowded p e =
      let aces = keep p (aces_in acl) in
      let read : take (length aces) (acl_of aces).items ≡ aces = take_pad no_ace max_aces aces in
      rw e
      record {
        blank = ap acl_of (sym read);
        few = omega (arith, length_keep p (aces_in acl), in_room_lem);
        small = ap (any many_luacds) read ∙ none_kept many_luacds p (aces_in acl) none_many;
      }

  module _ (luns : List ℕ) (pages : List (List ℕ)) where
    -- without a grant page
    pub fitted_none : any is_grant pages ≡ false → ◌≡◌ {A = Result Acl Condition} (Ok acl) (fitted_after luns pages acl)
    unfolding fitted_after acl_after
    fitted_none e = rw (aces_none luns pages (aces_in acl) e, not_crowded, e)

    -- with one
    pub fitted_some : {left : Acl} → any is_grant pages ≡ true → left ≡ acl_of (keep (unnamed pages) (aces_in acl)) → fitted (aces_in left ++ gather (new_aces luns) pages) ≡ fitted_after luns pages acl
    unfolding fitted_after fitted aces_after acl_after
    fitted_some e f = rw (f, take_pad no_ace max_aces (keep (unnamed pages) (aces_in acl)), e)

    -- the end state's ACL passes phase 5 exactly if the ACEs fit
    many_after : (ltb max_aces (acl_after luns pages acl).count || any many_luacds (aces_in (acl_after luns pages acl))) ≡ crowded (aces_after luns pages (aces_in acl))
    unfolding acl_after crowded
    many_after =
        let after = aces_after luns pages (aces_in acl) in
        split
        (any is_grant pages)
        (λ e. rw (e, take_pad no_ace max_aces after))
        (λ e. rw (e, aces_none luns pages (aces_in acl) e, le-ltb 32 acl.count s.few, none_many, le-ltb 32 (length (aces_in acl)) in_room_lem))

    -- the ACEs do not fit
    pub no_fit : {k : Condition} → fitted_after luns pages acl ≡ Err k → (crowded (aces_after luns pages (aces_in acl)) ≡ true) × (k ≡ NoRoom)
    unfolding fitted_after
    no_fit {k} h =
        split
        (crowded (aces_after luns pages (aces_in acl)))
        (λ t. let q : ◌≡◌ {A = Result Acl Condition} (Err NoRoom) (Err k) = rw t at h in
        let same : k ≡ NoRoom = cc in (t, same))
        (λ t. clashes refl (ap is_ok (rw t at h)))

    -- they fit
    pub record Fit (next : Acl) : Type 0 where
      pub fits : crowded (aces_after luns pages (aces_in acl)) ≡ false
      pub is : next ≡ acl_after luns pages acl

    pub fit : {next : Acl} → fitted_after luns pages acl ≡ Ok next → Fit next
    unfolding fitted_after
    fit {next} h =
        split
        (crowded (aces_after luns pages (aces_in acl)))
        (λ t. clashes (ap is_ok (rw t at h)) refl)
        (λ t. let q : ◌≡◌ {A = Result Acl Condition} (Ok (acl_after luns pages acl)) (Ok next) = rw t at h in
        let same : next ≡ acl_after luns pages acl = cc in record { fits = t; is = same })

pub sized : {c : Coordinator} → Counted c → Sized c.acl
sized h = record { few = h.few_aces; small = h.luacds_few }

pub too_many_lem : (c : Coordinator) (list : List ℕ) → Counted c → too_many (end_state c list) ≡ crowded (aces_after (units_of c) (ace_pages list) (aces_of c))
unfolding too_many granted_with revoked_by
too_many_lem c list h =
    many_after c.acl (sized h) (units_of c) (ace_pages list)

-- without a grant page, or with one
pub ruleset fits_after = (fitted_none, fitted_some)
