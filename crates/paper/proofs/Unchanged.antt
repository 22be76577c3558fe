-- Demand 1: "a refusal gives the fixed status, sense or number and changes neither the state nor a byte of the reply buffer." An outcome that is not GOOD leaves both as they were, whatever was decided.
use Prim.Native.Nat.{ℕ}
use mathlib.Core.Path.{◌≡◌, refl}
use mathlib.Core.List.{List}
use lib.ListN.{length}
use Rattle.lists.proofs.Deliver.{length_deliver}
use Rattle.paper.specs.Outcomes.{Decision, refuse, check, good, outcome_of, buffer_after}
use Rattle.paper.specs.declared.state.Coordinator.{Coordinator}
use Rattle.paper.specs.declared.answers.Answer.TheVariants.{Good}

pub record Unchanged (c : Coordinator) (d : Decision) (buffer : List ℕ) : Type 0 where
  pub state : (outcome_of c d).state ≡ c
  pub bytes : buffer_after d buffer ≡ buffer
  pub delivered : (outcome_of c d).delivered ≡ 0

pub unchanged : (c : Coordinator) (d : Decision) (buffer : List ℕ) → ((outcome_of c d).answer ≡ Good → ⊥) → Unchanged c d buffer
unchanged c (refuse n) buffer h = record { state = refl; bytes = refl; delivered = refl }
unchanged c (check k) buffer h = record { state = refl; bytes = refl; delivered = refl }
unchanged c (good es bytes) buffer h = absurd (h refl)

-- the lent buffer keeps its length in any case
pub same_room : (d : Decision) (buffer : List ℕ) → length (buffer_after d buffer) ≡ length buffer
same_room (refuse n) buffer = refl
same_room (check k) buffer = refl
same_room (good es bytes) buffer = length_deliver bytes buffer
