-- Each case is answered by its own function, as the definition has it.
use mathlib.Core.Path.{refl}
use native.Mathlib.Omega.{arith}
use lib.Seq.{length-take-le}
use Rattle.journal.specs.Replay.{step_line}
use Rattle.journal.proofs.LentSlice.{command_lends, reach_lends}
use Rattle.journal.proofs.replaying.answer_read.Goals as goal

pub returns-in-Skipped : goal.returns-in-Skipped
unfolding step_line
returns-in-Skipped c =
    rw c.in-Skipped.is (record { state = refl; text = refl; room = omega arith })

pub returns-in-Setup : goal.returns-in-Setup
unfolding step_line
returns-in-Setup c =
    let a = c.args in
    let e = c.answer_setup.ensures in
    rw c.in-Setup.is (record { state = e.state a.c; text = e.text a.c; room = e.room })

pub returns-in-Command : goal.returns-in-Command
unfolding step_line
returns-in-Command c =
    let fits = command_lends c.args.first.now c.args.second.now c.in-Command.is c.requires.0 in
    rw c.in-Command.is (rw (length-take-le c.in-Command.n c.args.reply.now (omega (arith, fits, c.requires.1))) at c.answer_command.ensures)

pub returns-in-Link : goal.returns-in-Link
unfolding step_line
returns-in-Link c =
    rw c.in-Link.is c.answer_link.ensures

pub returns-in-Route : goal.returns-in-Route
unfolding step_line
returns-in-Route c =
    rw c.in-Route.is c.answer_route.ensures

pub returns-in-Reach : goal.returns-in-Reach
unfolding step_line
returns-in-Reach c =
    let fits = reach_lends c.args.first.now c.args.second.now c.in-Reach.is c.requires.0 in
    rw c.in-Reach.is (rw (length-take-le c.in-Reach.n c.args.reply.now (omega (arith, fits, c.requires.1))) at c.answer_reach.ensures)
