-- A statement that is decided GOOD has effects that fit: its tests and the standing rules see to it.
use Prim.Native.Nat.{ℕ, ◌<◌}
use mathlib.Core.Path.{◌≡◌, refl, ap, subst}
use mathlib.Core.List.{List, [], ◌∷◌, ◌++◌}
use mathlib.Core.Bool.{Bool, true, false, cond}
use native.Mathlib.Omega.{arith}
use native.Mathlib.Decide.{dec_lt}
use lib.ListN.{length, get_or-eq_default}
use lib.Dec.{eqb}
use Rattle.lists.specs.Lists.{gather, is_some}
use Rattle.lists.proofs.Tests.{both, clashes}
use Rattle.lists.proofs.Members.{in_get_or}
use Rattle.paper.specs.Contents.{Enrolment, not_enrolled, enrolled, pending}
use Rattle.paper.specs.Tables.{units_of, enrolments_of, enrolment_of, aces_of, proxies_of}
use Rattle.paper.specs.Rows.{ace_for}
use Rattle.paper.specs.Standing.{standing}
use Rattle.paper.specs.Orders.{Order, report_acl, request_token, manage_acl, disable, enroll, cancel, revoke, revoke_all, assign, release, no_action}
use Rattle.paper.specs.Effects.{flushed, Effect, keyed, enrolling}
use Rattle.paper.specs.Pages.{new_key_in, flush_in, ace_pages, page_code, page_effects, manage_effects}
use Rattle.paper.specs.InForce.{in_force, effects, link_effects}
use Rattle.paper.specs.Applied.{applied}
use Rattle.paper.specs.Commands.{passes, tests}
use Rattle.paper.specs.Outcomes.{good, decide_command, decide_link}
use Rattle.paper.proofs.Stood.{stood}
use Rattle.paper.proofs.Ruled.{ruled, refers_to}
use Rattle.paper.proofs.Counts.{off_aces, off_tokens, live_on}
use Rattle.paper.proofs.Passed.{issues, assigns}
use Rattle.paper.proofs.Invariant.{Sound}
use Rattle.paper.proofs.ListLaws.{no_member}
use Rattle.paper.proofs.SameId.{kept_again}
use Rattle.paper.proofs.Fitting.{Empty, FitAll}
use Rattle.paper.proofs.Decided.{decided, linked}
use Rattle.paper.specs.declared.state.IdType.TheVariants.{AccessId}
use Rattle.paper.specs.declared.state.Ace.{Ace}
use Rattle.paper.specs.declared.state.Coordinator.{Coordinator}

-- ---- what stands while access controls are off: nothing
module _ (c : Coordinator) (sound : Sound c) (stands : standing c ≡ true) (off : c.enabled ≡ false) where
  no_ace_lem : (id : List ℕ) → is_some (ace_for (aces_of c) AccessId id) ≡ false
  unfolding ace_for
  no_ace_lem id = ap (λ (l : List Ace). is_some (ace_for l AccessId id)) (off_aces c (stood c stands).off off)

  -- an enrolment refers to an ACE, and there is none
  unenrolled : (e : Enrolment) → refers_to (aces_of c) e ≡ true → e ≡ not_enrolled
  unenrolled not_enrolled r = refl
  unenrolled (enrolled id) r = clashes r (no_ace_lem id)
  unenrolled (pending id) r = clashes r (no_ace_lem id)

  nobody_enrolled : (i : ℕ) → enrolment_of c i ≡ not_enrolled
  nobody_enrolled i = go (dec_lt i (length (enrolments_of c)))
    where
      go : Dec (i < length (enrolments_of c)) → enrolment_of c i ≡ not_enrolled
      go (yes k) =
          unenrolled (enrolment_of c i) ((ruled c (stood c stands)).enrolments (enrolment_of c i) (in_get_or not_enrolled (enrolments_of c) i k))
      go (no k) = get_or-eq_default (enrolments_of c) not_enrolled {n = i} (omega arith)

  empty_off : Empty c
  empty_off =
      let empty = (stood c stands).off in
      record {
        aces = off_aces c empty off;
        tokens = off_tokens c empty off;
        proxies = no_member (proxies_of c) (λ p m. clashes (live_on c empty p.token (sound.live p m)) off);
        enrolments = nobody_enrolled;
      }

-- ---- MANAGE ACL: but for turning on, its effects fit wherever they stand
page_fits : (luns page : List ℕ) (rest : List Effect) → ((c : Coordinator) → FitAll c rest) → (c : Coordinator) → FitAll c (page_effects luns page ++ rest)
unfolding page_effects
page_fits luns page rest f =
    both (λ es. (c : Coordinator) → FitAll c (es ++ rest)) (eqb (page_code page) 0x00) (λ c. (tt, f _))
    (both (λ es. (c : Coordinator) → FitAll c (es ++ rest)) (eqb (page_code page) 0x01) (λ c. (tt, f _))
    (both (λ es. (c : Coordinator) → FitAll c (es ++ rest)) (eqb (page_code page) 0x02) (λ c. (tt, f _))
    (both (λ es. (c : Coordinator) → FitAll c (es ++ rest)) (eqb (page_code page) 0x03) (λ c. (tt, f _))
    f)))

pages_fit : (luns : List ℕ) (pages : List (List ℕ)) (c : Coordinator) → FitAll c (gather (page_effects luns) pages)
pages_fit luns [] c = tt
pages_fit luns (page ∷ pages) c = page_fits luns page (gather (page_effects luns) pages) (pages_fit luns pages) c

flush_fits : (b : Bool) (luns : List ℕ) (pages : List (List ℕ)) (c : Coordinator) → FitAll c (cond b (enrolling flushed ∷ []) [] ++ gather (page_effects luns) pages)
flush_fits true luns pages c = (tt, pages_fit luns pages _)
flush_fits false luns pages c = pages_fit luns pages c

still_empty : (c : Coordinator) (k : ℕ) → Empty c → Empty (applied c (keyed k))
unfolding applied
still_empty c k e = record { aces = e.aces; tokens = e.tokens; proxies = e.proxies; enrolments = e.enrolments }

manage_fits : (c : Coordinator) (luns : List ℕ) (on : Bool) (list : List ℕ) → (on ≡ false → Empty c) → FitAll c (manage_effects luns on list)
unfolding manage_effects
manage_fits c luns true list e = (tt, flush_fits (flush_in list) luns (ace_pages list) _)
manage_fits c luns false list e =
    (tt, (still_empty c (new_key_in list) (e refl), flush_fits (flush_in list) luns (ace_pages list) _))

-- ---- orders that passed their tests
module _ (c : Coordinator) (sound : Sound c) (stands : standing c ≡ true) (i random : ℕ) (there : i < c.initiators.count) where
  order_fits : (on : Bool) → c.enabled ≡ on → (luns : List ℕ) (o : Order) → tests c i random (in_force on o) ≡ passes → FitAll c (effects luns on i random (in_force on o))
  unfolding tests effects in_force
  order_fits true on luns (report_acl key room) e = tt
  order_fits true on luns (request_token l) e = (record { on = on; there = there; passed = issues c i l random e }, tt)
  order_fits true on luns (manage_acl list) e = manage_fits c luns true list (λ q. clashes refl q)
  order_fits true on luns (disable key) e = (tt, tt)
  order_fits true on luns (enroll id) e = (record { there = there; whole = kept_again AccessId id }, tt)
  order_fits true on luns cancel e = (there, tt)
  order_fits true on luns (revoke n) e = (tt, tt)
  order_fits true on luns (revoke_all l) e = (tt, tt)
  order_fits true on luns (assign n l) e = (record { on = on; passed = assigns c i n l e }, tt)
  order_fits true on luns (release l) e = (tt, tt)
  order_fits true on luns no_action e = tt
  order_fits false off luns (report_acl key room) e = tt
  order_fits false off luns (request_token l) e = tt
  order_fits false off luns (manage_acl list) e = manage_fits c luns false list (λ q. empty_off c sound stands off)
  order_fits false off luns (disable key) e = tt
  order_fits false off luns (enroll id) e = tt
  order_fits false off luns cancel e = tt
  order_fits false off luns (revoke n) e = tt
  order_fits false off luns (revoke_all l) e = tt
  order_fits false off luns (assign n l) e =
      clashes (live_on c (stood c stands).off n (assigns c i n l e).live) off
  order_fits false off luns (release l) e = tt
  order_fits false off luns no_action e = tt

link_event_fits : (c : Coordinator) (i : ℕ) (on : Bool) → i < c.initiators.count → FitAll c (link_effects on i)
link_event_fits c i true there = (there, tt)
link_event_fits c i false there = tt

-- ---- every statement
pub command_fits : {es : List Effect} {bytes : List ℕ} (c : Coordinator) → Sound c → (i : ℕ) (cdb list : List ℕ) (random room : ℕ) → decide_command c i cdb list random room ≡ good es bytes → FitAll c es
command_fits c sound i cdb list random room e =
    let d = decided c i cdb list random room e in
    subst (λ (es : List Effect). FitAll c es) d.took (order_fits c sound d.stands i random d.there c.enabled refl (units_of c) d.asked d.passed)

pub link_fits : {es : List Effect} {bytes : List ℕ} (c : Coordinator) (i : ℕ) → decide_link c i ≡ good es bytes → FitAll c es
link_fits c i e =
    let d = linked c i e in
    subst (λ (es : List Effect). FitAll c es) d.took (link_event_fits c i c.enabled d.there)
