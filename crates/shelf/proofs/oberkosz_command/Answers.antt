-- A byte that names no variant refuses the call and leaves the buffer; else the coordinator answers.
use lib.ListN.{length}
use Rattle.paper.specs.Outcomes.{decide_command}
use Rattle.shelf.proofs.Calls.{call_refused, call_made}
use Rattle.shelf.proofs.oberkosz_command.Goals as goal

pub returns-then-not-well_named : goal.returns-then-not-well_named
returns-then-not-well_named c =
    let a = c.args in
    let so = call_refused a.s (λ d. decide_command d a.initiator a.cdb.now a.list.now a.random (length a.reply.now)) a.reply.now c.well_named.ensures c.if-not-well_named.true c.refused_shelf.ensures in
    record { outcome = so.0; bytes = so.1 }

pub returns : goal.returns
returns c =
    let a = c.args in
    let so = call_made a.s (λ d. decide_command d a.initiator a.cdb.now a.list.now a.random (length a.reply.now)) a.reply.now c.well_named.ensures c.if-not-well_named.false c.coordinator_in-c.ensures (c.command.ensures.outcome, c.command.ensures.bytes) c.outcome_out.ensures in
    record { outcome = so.0; bytes = so.1 }
