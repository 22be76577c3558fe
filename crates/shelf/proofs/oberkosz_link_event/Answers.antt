-- A byte that names no variant refuses the event; else the coordinator is told it.
use mathlib.Core.Path.{refl}
use mathlib.Core.List.{[]}
use Rattle.paper.specs.Outcomes.{decide_link}
use Rattle.shelf.proofs.Calls.{call_refused, call_made}
use Rattle.shelf.proofs.oberkosz_link_event.Goals as goal

pub returns-then-not-well_named : goal.returns-then-not-well_named
returns-then-not-well_named c =
    let a = c.args in
    (call_refused a.s (λ d. decide_link d a.initiator) [] c.well_named.ensures c.if-not-well_named.true c.refused_shelf.ensures).0

pub returns : goal.returns
returns c =
    let a = c.args in
    (call_made a.s (λ d. decide_link d a.initiator) [] c.well_named.ensures c.if-not-well_named.false c.coordinator_in-c.ensures (c.link_event.ensures, refl) c.outcome_out.ensures).0
