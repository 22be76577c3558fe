-- An initiator's number.
use Rattle.std.specs.Prelude.{ℕ, ◌≤◌, ◌<◌}
use Rattle.paper.specs.Sizes.{max_initiators}
use Rattle.paper.specs.declared.state.Coordinator.{Coordinator}

-- i is the number of an initiator, of which there are no more than the table has room for
pub record InSetup (c : Coordinator) (i : ℕ) : Type 0 where
  pub there : i < c.initiators.count
  pub few : c.initiators.count ≤ max_initiators
