-- A state that stands has no more initiators than there is room for.
use Prim.Native.Nat.{◌≤◌}
use mathlib.Core.Path.{◌≡◌}
use mathlib.Core.Bool.{true}
use Rattle.paper.specs.Standing.{standing}
use Rattle.paper.specs.declared.state.Coordinator.{Coordinator}
use Rattle.paper.proofs.Stood.{stood, counted}

pub few_initiators : (c : Coordinator) → standing c ≡ true → c.initiators.count ≤ 16
few_initiators c s = (counted c (stood c s).counts).few_initiators
