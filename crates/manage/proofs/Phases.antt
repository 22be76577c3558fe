-- Phases 5 and 6, which are asked of the end state, for a list that passes those before them.
use Prim.Native.Nat.{ℕ}
use mathlib.Core.Path.{◌≡◌, refl, ap, sym, ◌∙◌}
use mathlib.Core.List.{List, [], ◌∷◌}
use mathlib.Core.Bool.{true, false, not}
use lib.Dec.{eqb}
use Rattle.std.specs.Prelude.{Result, Ok, Err}
use Rattle.lists.specs.Lists.{any, pairs}
use Rattle.lists.proofs.Tests.{split, or_false}
use Rattle.paper.specs.Tables.{aces_of, units_of}
use Rattle.paper.specs.Rows.{some_clash}
use Rattle.paper.specs.Pages.{generation_in, flush_in, ace_pages, bad_page, same_grant}
use Rattle.paper.specs.Commands.{malformed, managed, too_many, manage_tests}
use Rattle.paper.proofs.Stood.{stood, Counted, counted}
use Rattle.paper.specs.Tables.{Acl}
use Rattle.paper.specs.declared.state.Initiators.{Initiators}
use Rattle.paper.specs.declared.state.Coordinator.{Coordinator}
use Rattle.paper.specs.declared.answers.Condition.{Condition}
use Rattle.paper.specs.declared.answers.Condition.TheVariants.{Clash, NoRoom}
use Rattle.manage.specs.EndState.{in_order, ends_under, initiators_by, initiators_after, aces_after, crowded, granted_with, revoked_by, end_state}
use Rattle.manage.specs.Phases.{Passed, passed}
use Rattle.manage.proofs.EndState.{end_state_lem}
use Rattle.manage.proofs.Fits.{too_many_lem}

-- ---- the number of initiators stays
count_pages : (pages : List (List ℕ)) (t : Initiators) → (in_order initiators_by pages t).count ≡ t.count
unfolding in_order initiators_by
count_pages [] t = refl
count_pages (page ∷ pages) t =
    count_pages pages (initiators_by page t) ∙ split (ends_under page) (λ e. rw e) (λ e. rw e)

pub count_granted : (c : Coordinator) (list : List ℕ) (acl : Acl) → (granted_with c list acl).initiators.count ≡ c.initiators.count
unfolding granted_with initiators_after
count_granted c list acl = count_pages (ace_pages list) _ ∙ split (flush_in list) (λ e. rw e) (λ e. rw e)

pub count_revoked : (list : List ℕ) (c : Coordinator) → (revoked_by list c).initiators.count ≡ c.initiators.count
unfolding revoked_by
count_revoked list c = refl

-- the command fails with a condition
abbrev fails_with : Coordinator → List ℕ → Condition → Type 0
fails_with c list k = ◌≡◌ {A = Result Coordinator Condition} (Err k) (passed (manage_tests c list) (managed c list))

-- ---- phases 5 and 6, on the end state
module _ (c : Coordinator) (list : List ℕ) (p : Passed c list) where
  -- "two grant pages (00h or 01h) with one type and identifier" there are not
  single : pairs same_grant (ace_pages list) ≡ false
  unfolding malformed
  single =
      (or_false (any bad_page (ace_pages list)) _ (or_false (not (eqb (generation_in list) c.generation)) _ p.formed).1).1

  end_is : managed c list ≡ end_state c list
  end_is = end_state_lem c list (stood c p.stands).generation single

  pub counts : Counted c
  counts = counted c (stood c p.stands).counts

  crowds : too_many (managed c list) ≡ crowded (aces_after (units_of c) (ace_pages list) (aces_of c))
  crowds = ap too_many end_is ∙ too_many_lem c list counts

  pub fails_5 : crowded (aces_after (units_of c) (ace_pages list) (aces_of c)) ≡ true → fails_with c list NoRoom
  unfolding manage_tests
  fails_5 h = rw (p.whole, p.key, p.formed, p.placed, crowds, h)

  module _ (room : crowded (aces_after (units_of c) (ace_pages list) (aces_of c)) ≡ false) where
    pub fails_6 : some_clash (end_state c list) ≡ true → fails_with c list Clash
    unfolding manage_tests
    fails_6 h = rw (p.whole, p.key, p.formed, p.placed, crowds, room, ap some_clash end_is ∙ h)

    pub all_pass : some_clash (end_state c list) ≡ false → ◌≡◌ {A = Result Coordinator Condition} (Ok (end_state c list)) (passed (manage_tests c list) (managed c list))
    unfolding manage_tests
    all_pass h =
        rw (p.whole, p.key, p.formed, p.placed, crowds, room, ap some_clash end_is ∙ h) (ap Ok (sym end_is))
