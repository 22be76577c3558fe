-- What is asked of the state that came in is asked of the coordinator that it is.
use mathlib.Core.Path.{ap, ◌∙◌}
use Rattle.paper.specs.Standing.{standing}
use Rattle.shelf.proofs.Calls.{opening_so}
use Rattle.shelf.proofs.oberkosz_route_standing.Goals as goal

pub route_standing-requires : goal.route_standing-requires
route_standing-requires c = ap standing c.coordinator_in-c.ensures ∙ c.requires

pub returns : goal.returns
returns c =
    let a = c.args in
    opening_so a.s a.initiator a.lun c.coordinator_in-c.ensures c.route_standing.ensures c.opening_out.ensures
