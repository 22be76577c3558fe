-- "After any sequence of commands and link events from an accepted setup": the states that demand 3 speaks of.
use Rattle.std.specs.Prelude.{◌≡◌, List, ℕ}
use Rattle.paper.specs.Fresh.{started}
use Rattle.paper.specs.Runs.{Entry}
use Rattle.paper.specs.Promises.{Calls}
use Rattle.paper.specs.declared.state.Coordinator.{Coordinator}
use Rattle.paper.specs.declared.answers.Answer.TheVariants.{Good}

-- a setup that was accepted, and the transcript of the calls that made the state of it
pub record Reached (c : Coordinator) : Type 0 where
  pub ids : List ℕ
  pub luns : List ℕ
  pub accepted : (started ids luns).answer ≡ Good
  pub es : List Entry
  pub calls : Calls (started ids luns).state c es
