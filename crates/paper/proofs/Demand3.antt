-- The third demand, as the auditor reads it. A setup is accepted; then come any commands, of any bytes, initiator number, random number and lent buffer, and any link events, refused ones among them, and each call keeps its contract. Then the reach list names every ground of access that stands in the history read from the transcript, each once, in order, and no other.
use Prim.Native.Nat.{ℕ, ◌≤◌, ◌<◌}
use mathlib.Core.Path.{◌≡◌, ap, sym, ◌∙◌, subst}
use mathlib.Core.Bool.{true, false}
use mathlib.Core.List.{List, []}
use mathlib.Core.Logic.{◌↔◌}
use native.Mathlib.Omega.{arith}
use lib.ListN.{length, take}
use lib.Seq.{take_all}
use lib.Dec.{ltb}
use borrow.Author.Tests.{ltb-false, le-leb}
use Rattle.lists.specs.Lists.{◌∈◌}
use Rattle.lists.specs.Bytes.{deliver}
use Rattle.lists.proofs.Tests.{split}
use Rattle.lists.proofs.Deliver.{take_deliver}
use Rattle.paper.specs.Setup.{Setup, setup_in, accepted}
use Rattle.paper.specs.Fresh.{fresh}
use Rattle.paper.specs.Standing.{standing}
use Rattle.paper.specs.Outcomes.{Decision, refuse, good, in_room, decide_reach, outcome_of, buffer_after, routed}
use Rattle.paper.specs.Reports.{reach_rows, reach_bytes}
use Rattle.paper.specs.Readings.{History, is_on, Stands, OneUnit}
use Rattle.paper.specs.Runs.{Entry, took, Names}
use Rattle.paper.specs.Promises.{SetupKept, CommandKept, LinkKept, RouteKept, ReachKept, Calls}
use Rattle.paper.proofs.NothingChanged.{good_setup, bad_setup}
use Rattle.paper.proofs.NeverRefused2.{command_not_2, link_not_2, reach_not_2, route_not_2}
use Rattle.paper.proofs.Invariant.{Holds}
use Rattle.paper.proofs.RunHolds.{start_holds, calls_hold}
use Rattle.paper.proofs.ReachNames.{names_unique, reach_names, one_unit, one_unit_listed}
use Rattle.paper.proofs.RouteAgrees.{Listed, not_w, only_w, route_unit, unit_route, route_pending, pending_route}
use Rattle.paper.proofs.WhileOff.{Open, off_names}
use Rattle.paper.specs.declared.state.Row.{Row}
use Rattle.paper.specs.declared.state.Coordinator.{Coordinator}
use Rattle.paper.specs.declared.outcomes.Outcome.{Outcome}
use Rattle.paper.specs.declared.outcomes.Started.{Started}
use Rattle.paper.specs.declared.outcomes.Opening.{Opening}
use Rattle.paper.specs.declared.answers.Refusal.{Refusal}
use Rattle.paper.specs.declared.answers.Refusal.TheVariants.{BadState, NoInitiator, ShortBuffer}
use Rattle.paper.specs.declared.answers.Answer.TheVariants.{Good, Refused}
use Rattle.paper.specs.declared.answers.Condition.TheVariants.{PendingEnrolled}
use Rattle.paper.specs.declared.answers.Opened.TheVariants.{Opens, Closed, Barred}

-- ---- a setup that is answered GOOD was accepted, and starts a fresh coordinator
refused_not_good : {n : Refusal} → Refused n ≡ Good → ⊥
refused_not_good e = let z : ◌≡◌ {A = ℕ} 0 1 = cc in omega arith

pub was_accepted : (ids luns : List ℕ) (s : Started) → SetupKept ids luns s → s.answer ≡ Good → accepted ids luns ≡ true
was_accepted ids luns s kept ok =
    split (accepted ids luns)
    (λ a. a)
    (λ a. absurd (refused_not_good (sym (ap (λ x. x.answer) (kept ∙ bad_setup ids luns a)) ∙ ok)))

pub started_fresh : (ids luns : List ℕ) (s : Started) → SetupKept ids luns s → s.answer ≡ Good → s.state ≡ fresh (setup_in ids luns)
started_fresh ids luns s kept ok =
    ap (λ x. x.state) (kept ∙ good_setup ids luns (was_accepted ids luns s kept ok))

-- ---- the reach list that a call delivers
delivered_so : (bytes buffer : List ℕ) (c : Coordinator) (r : Outcome) (after : List ℕ) (d : Decision) → d ≡ in_room (length buffer) (good [] bytes) → r ≡ outcome_of c d → after ≡ buffer_after d buffer → r.answer ≡ Good → take r.delivered after ≡ bytes
delivered_so bytes buffer c r after d k e f ok =
    split (ltb (length buffer) (length bytes))
    (λ short.
    let g : d ≡ refuse ShortBuffer = k ∙ rw short in
    absurd (refused_not_good (sym (ap (λ x. x.answer) (e ∙ ap (outcome_of c) g)) ∙ ok)))
    (λ fits.
    let g : d ≡ good [] bytes = k ∙ rw fits in
    let n : r.delivered ≡ length bytes = ap (λ x. x.delivered) (e ∙ ap (outcome_of c) g) in
    let a : after ≡ deliver bytes buffer = f ∙ ap (λ x. buffer_after x buffer) g in
    rw (n, a) (take_deliver bytes buffer (length bytes) (omega arith) (ltb-false (length buffer) (length bytes) fits) ∙ take_all (length bytes) bytes (omega arith)))

module _ (ids luns : List ℕ) (s : Started) (kept : SetupKept ids luns s) (ok : s.answer ≡ Good) (c : Coordinator) (es : List Entry) (calls : Calls s.state c es) where
  abbrev w : Setup
  w = setup_in ids luns

  -- what took effect, read from statements and answers alone
  abbrev h : History
  h = took w es

  pub run_holds : Holds w h c
  run_holds =
      let first = started_fresh ids luns s kept ok in
      calls_hold w s.state (subst (λ x. Holds w [] x) (sym first) (start_holds ids luns (was_accepted ids luns s kept ok))) c es calls

  -- standing is kept
  pub always_stands : standing c ≡ true
  always_stands = run_holds.stands

  -- so refusal 2 is not the answer to anything that is asked of the state
  pub command_never_2 : (i : ℕ) (cdb list : List ℕ) (random : ℕ) (buffer : List ℕ) (r : Outcome) (after : List ℕ) → CommandKept c i cdb list random buffer r after → r.answer ≡ Refused BadState → ⊥
  command_never_2 i cdb list random buffer r after k q =
      command_not_2 c always_stands i cdb list random (length buffer) (sym (ap (λ x. x.answer) k.0) ∙ q)

  pub link_never_2 : (i : ℕ) (r : Outcome) → LinkKept c i r → r.answer ≡ Refused BadState → ⊥
  link_never_2 i r k q = link_not_2 c always_stands i (sym (ap (λ x. x.answer) k) ∙ q)

  pub reach_never_2 : (buffer : List ℕ) (r : Outcome) (after : List ℕ) → ReachKept c buffer r after → r.answer ≡ Refused BadState → ⊥
  reach_never_2 buffer r after k q =
      reach_not_2 c always_stands (length buffer) (sym (ap (λ x. x.answer) k.0) ∙ q)

  pub route_never_2 : (i l : ℕ) (r : Opening) → RouteKept c i l r → r.opened ≡ Barred BadState → ⊥
  route_never_2 i l r k q = route_not_2 c always_stands i l (sym (ap (λ x. x.opened) k) ∙ q)

  -- "the reach list names every ground of access that stands, each once, in order, and no other"
  pub reach_list : Names (reach_rows c) (Stands w h)
  reach_list = reach_names w h c run_holds

  pub only_list : (l : List Row) → Names l (Stands w h) → l ≡ reach_rows c
  only_list l n = names_unique (Stands w h) l (reach_rows c) n reach_list

  -- what `reach` delivers are the header and the rows of that list
  pub reach_delivers : (buffer : List ℕ) (r : Outcome) (after : List ℕ) → ReachKept c buffer r after → r.answer ≡ Good → take r.delivered after ≡ reach_bytes c
  unfolding decide_reach
  reach_delivers buffer r after k good-answer =
      delivered_so (reach_bytes c) buffer c r after (decide_reach c (length buffer)) (rw always_stands) k.0 k.1 good-answer

  -- "No LUN opens two units for one initiator.", said of the history and of the list
  pub no_two_units : OneUnit w h
  no_two_units = one_unit w h c run_holds

  pub no_two_units_listed : (r q : Row) → r ∈ reach_rows c → q ∈ reach_rows c → r.initiator ≡ q.initiator → r.lun ≡ q.lun → r.unit ≡ q.unit
  no_two_units_listed = one_unit_listed w h c run_holds

  -- while access controls are off, every unit at its default LUN for every initiator, and nothing else
  pub list_while_off : is_on h ≡ false → Names (reach_rows c) (Open w)
  list_while_off off = off_names w h c run_holds off

  -- the route question of an initiator that is not there is refusal 3
  pub route_absent : (i l : ℕ) → c.initiators.count ≤ i → routed c i l ≡ Barred NoInitiator
  unfolding routed
  route_absent i l absent = rw (always_stands, le-leb c.initiators.count i absent)

  -- the route question of one that is there agrees with the list
  module _ (i : ℕ) (there : i < c.initiators.count) (l : ℕ) where
    pub route_opens : (u : ℕ) → (routed c i l ≡ Opens u) ↔ ((x : Listed c i l not_w) × (x.row.unit ≡ u))
    route_opens u = (
      route_unit w h c run_holds i there l u,
      λ p. unit_route w h c run_holds i there l p.0 ∙ ap Opens p.1,
    )

    pub route_waits : (routed c i l ≡ Closed PendingEnrolled) ↔ ((Listed c i l not_w → ⊥) × Listed c i l only_w)
    route_waits = (
      route_pending w h c run_holds i there l,
      λ p. pending_route w h c run_holds i there l p.0 p.1,
    )
