-- The heart of demand 3: an accepted setup starts a state that holds with the empty history, and every call that keeps its contract hands on a state that holds with the history read from the transcript.
use Prim.Native.Nat.{ℕ}
use mathlib.Core.Path.{◌≡◌, refl, sym, ◌∙◌, subst}
use mathlib.Core.Bool.{true}
use mathlib.Core.List.{List, []}
use lib.ListN.{length}
use Rattle.paper.specs.Setup.{Setup, setup_in, accepted}
use Rattle.paper.specs.Fresh.{fresh}
use Rattle.paper.specs.Standing.{standing}
use Rattle.paper.specs.Effects.{Effect}
use Rattle.paper.specs.InForce.{in_force}
use Rattle.paper.specs.Applied.{applied_all}
use Rattle.paper.specs.Outcomes.{Decision, refuse, check, good, decide_command, decide_link, outcome_of}
use Rattle.paper.specs.Readings.{History, is_on}
use Rattle.paper.specs.Runs.{Statement, command, link, statement_effects, answered_effects, onto, took, Entry}
use Rattle.paper.specs.Promises.{Calls, none_yet, commanded, linked}
use Rattle.paper.proofs.Invariant.{Holds}
use Rattle.paper.proofs.UnitsStay.{units_kept}
use Rattle.paper.proofs.Decided.{decided, linked as linked-so, command_told, link_told}
use Rattle.paper.proofs.Agreement.{command_agrees, link_agrees, start_agrees, start_sound}
use Rattle.paper.proofs.OffStands.{fresh_stands}
use Rattle.paper.proofs.OrderStands.{order_stands, link_event_stands}
use Rattle.paper.specs.declared.state.Coordinator.{Coordinator}

-- ---- standing is kept by every command and link event
pub command_stands : (c : Coordinator) (i : ℕ) (cdb list : List ℕ) (random room : ℕ) {es : List Effect} {bytes : List ℕ} → decide_command c i cdb list random room ≡ good es bytes → standing (applied_all c es) ≡ true
command_stands c i cdb list random room e =
    let d = decided c i cdb list random room e in
    subst (λ fs. standing (applied_all c fs) ≡ true) d.took (order_stands c i random (in_force c.enabled d.asked) d.stands d.there d.passed)

pub link_stands : (c : Coordinator) (i : ℕ) {es : List Effect} {bytes : List ℕ} → decide_link c i ≡ good es bytes → standing (applied_all c es) ≡ true
link_stands c i e =
    let d = linked-so c i e in
    subst (λ fs. standing (applied_all c fs) ≡ true) d.took (link_event_stands c i d.stands d.there)

-- ---- what holds, holds after a statement that is decided so
module _ (w : Setup) (h : History) (c : Coordinator) (holds : Holds w h c) where
  -- the history after a statement with that answer
  abbrev After : Statement → Decision → History
  After s d = onto (answered_effects (outcome_of c d).answer (statement_effects w.luns (is_on h) s)) h

  after_command : (i : ℕ) (cdb list : List ℕ) (random room : ℕ) (d : Decision) → decide_command c i cdb list random room ≡ d → Holds w (After (command i cdb list random) d) (outcome_of c d).state
  unfolding onto
  after_command i cdb list random room (refuse n) e = holds
  after_command i cdb list random room (check k) e = holds
  after_command i cdb list random room (good es bytes) e =
      let both = command_agrees w h c holds i cdb list random room e in
      subst (λ fs. Holds w (onto fs h) (applied_all c es)) (sym (command_told w h c holds.agrees i cdb list random room e))
      (record {
        agrees = both.0;
        sound = both.1;
        stands = command_stands c i cdb list random room e;
        table = units_kept c es ∙ holds.table;
      })

  after_link : (i : ℕ) (d : Decision) → decide_link c i ≡ d → Holds w (After (link i) d) (outcome_of c d).state
  unfolding onto
  after_link i (refuse n) e = holds
  after_link i (check k) e = holds
  after_link i (good es bytes) e =
      let both = link_agrees w h c holds i e in
      subst (λ fs. Holds w (onto fs h) (applied_all c es)) (sym (link_told w h c holds.agrees i e))
      (record {
        agrees = both.0;
        sound = both.1;
        stands = link_stands c i e;
        table = units_kept c es ∙ holds.table;
      })

-- ---- from an accepted setup
pub start_holds : (ids luns : List ℕ) → accepted ids luns ≡ true → Holds (setup_in ids luns) [] (fresh (setup_in ids luns))
unfolding fresh
start_holds ids luns ok =
    record {
      agrees = start_agrees ids luns ok;
      sound = start_sound (setup_in ids luns);
      stands = fresh_stands ids luns ok;
      table = refl;
    }

-- the invariant of a run, wherever it starts
pub calls_hold : (w : Setup) (first : Coordinator) → Holds w [] first → (c : Coordinator) (es : List Entry) → Calls first c es → Holds w (took w es) c
unfolding took
calls_hold w first start c es none_yet = start
calls_hold w first start c es (commanded {c = now} {es = before} {r = r} i cdb list random buffer calls kept) =
    let h = took w before in
    let d = decide_command now i cdb list random (length buffer) in
    let held = after_command w h now (calls_hold w first start now before calls) i cdb list random (length buffer) d refl in
    rw kept.0 held
calls_hold w first start c es (linked {c = now} {es = before} {r = r} i calls kept) =
    let h = took w before in
    rw kept (after_link w h now (calls_hold w first start now before calls) i (decide_link now i) refl)
