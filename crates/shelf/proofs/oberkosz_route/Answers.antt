-- A byte that names no variant bars the question; else the coordinator is asked.
use Rattle.shelf.proofs.Calls.{route_barred, route_asked}
use Rattle.shelf.proofs.oberkosz_route.Goals as goal

pub returns-then-not-well_named : goal.returns-then-not-well_named
returns-then-not-well_named c =
    let a = c.args in
    route_barred a.s a.initiator a.lun c.well_named.ensures c.if-not-well_named.true c.opening_of.ensures c.opening_out.ensures

pub returns : goal.returns
returns c =
    let a = c.args in
    route_asked a.s a.initiator a.lun c.well_named.ensures c.if-not-well_named.false c.coordinator_in-c.ensures c.route.ensures c.opening_out-2.ensures
