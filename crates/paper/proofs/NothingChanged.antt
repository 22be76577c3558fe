-- Demand 1 of every call: an answer that is not GOOD leaves the state and every lent byte, and delivers none. (The route question hands back no state and is lent no byte.)
use Prim.Native.Nat.{ℕ}
use mathlib.Core.Path.{◌≡◌, ap, ◌∙◌}
use mathlib.Core.Bool.{true, false}
use mathlib.Core.List.{List, []}
use lib.ListN.{length}
use Rattle.paper.specs.Fresh.{nothing, fresh, started_with, started}
use Rattle.paper.specs.Setup.{setup_in, accepted}
use Rattle.lists.proofs.Tests.{split}
use Rattle.paper.specs.Outcomes.{Decision, decide_command, decide_link, decide_reach, outcome_of, buffer_after}
use Rattle.paper.specs.Promises.{SetupKept, CommandKept, LinkKept, ReachKept}
use Rattle.paper.proofs.Unchanged.{unchanged}
use Rattle.paper.specs.declared.state.Coordinator.{Coordinator}
use Rattle.paper.specs.declared.outcomes.Outcome.{Outcome}
use Rattle.paper.specs.declared.outcomes.Started.{Started}
use Rattle.paper.specs.declared.answers.Answer.TheVariants.{Good, Refused}
use Rattle.paper.specs.declared.answers.Refusal.TheVariants.{BadSetup}

-- the state handed in is handed back, and the buffer is as it was lent
pub record Left (c : Coordinator) (buffer : List ℕ) (r : Outcome) (after : List ℕ) : Type 0 where
  pub state : r.state ≡ c
  pub bytes : after ≡ buffer
  pub delivered : r.delivered ≡ 0

left : (c : Coordinator) (d : Decision) (buffer : List ℕ) {r : Outcome} {after : List ℕ} → r ≡ outcome_of c d → after ≡ buffer_after d buffer → (r.answer ≡ Good → ⊥) → Left c buffer r after
left c d buffer e f n =
    let u = unchanged c d buffer (λ g. n (ap (λ x. x.answer) e ∙ g)) in
    record { state = ap (λ x. x.state) e ∙ u.state; bytes = f ∙ u.bytes; delivered = ap (λ x. x.delivered) e ∙ u.delivered }

pub command_left : (c : Coordinator) (i : ℕ) (cdb list : List ℕ) (random : ℕ) (buffer : List ℕ) (r : Outcome) (after : List ℕ) → CommandKept c i cdb list random buffer r after → (r.answer ≡ Good → ⊥) → Left c buffer r after
command_left c i cdb list random buffer r after k n =
    left c (decide_command c i cdb list random (length buffer)) buffer k.0 k.1 n

pub link_left : (c : Coordinator) (i : ℕ) (r : Outcome) → LinkKept c i r → (r.answer ≡ Good → ⊥) → r.state ≡ c
link_left c i r k n =
    ap (λ x. x.state) k ∙ (unchanged c (decide_link c i) [] (λ g. n (ap (λ x. x.answer) k ∙ g))).state

pub reach_left : (c : Coordinator) (buffer : List ℕ) (r : Outcome) (after : List ℕ) → ReachKept c buffer r after → (r.answer ≡ Good → ⊥) → Left c buffer r after
reach_left c buffer r after k n = left c (decide_reach c (length buffer)) buffer k.0 k.1 n

-- "a coordinator without initiators and units comes back"
pub good_setup : (ids luns : List ℕ) → accepted ids luns ≡ true → started ids luns ≡ started_with (setup_in ids luns) Good
unfolding started
good_setup ids luns a = rw a

pub bad_setup : (ids luns : List ℕ) → accepted ids luns ≡ false → started ids luns ≡ started_with nothing (Refused BadSetup)
unfolding started
bad_setup ids luns a = rw a

pub setup_left : (ids luns : List ℕ) (r : Started) → SetupKept ids luns r → (r.answer ≡ Good → ⊥) → r.state ≡ fresh nothing
setup_left ids luns r k n =
    split (accepted ids luns)
    (λ a. absurd (n (ap (λ x. x.answer) (k ∙ good_setup ids luns a))))
    (λ a. ap (λ x. x.state) (k ∙ bad_setup ids luns a))
