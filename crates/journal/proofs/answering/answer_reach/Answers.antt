-- The buffer is filled before the call, and its outcome and the buffer after it are what is told.
use Rattle.journal.proofs.Lent.{reach_fits, call_state, call_text}
use Rattle.journal.specs.Replay.{step_said}
use Rattle.journal.specs.Statements.{reach_word}
use Rattle.paper.specs.Outcomes.{decide_reach}
use lib.ListN.{length}
use mathlib.Core.Path.{◌∙◌}
use Prim.Native.Nat.{◌≤◌}
use Rattle.journal.proofs.Told.{lent_most}
use native.Mathlib.Omega.{arith}
use Rattle.journal.proofs.answering.answer_reach.Goals as goal

pub line-size-requires : goal.line-size-requires
unfolding step_said
line-size-requires c =
    let called = c.reach-outcome in
    let fits = reach_fits c.args.c _ c.reach-outcome.ensures.outcome in
    let small : length called.new.reply ≤ 65536 = omega (arith, called.auto.reply, c.fill.auto.reply, c.requires.0) in
    (omega arith, (omega (arith, fits, called.auto.reply), small), lent_most called.result.answer called.result.delivered called.new.reply small, omega arith, c.requires.1)

pub returns : goal.returns
unfolding step_said
returns c =
    let a = c.args in
    let decide = decide_reach a.c in
    let n = length a.reply.now in
    let called = c.reach-outcome.ensures in
    record { state = call_state a.c decide n c.fill.ensures called.outcome called.bytes; text = c.line-size.ensures.text ∙ call_text a.c decide n c.fill.ensures called.outcome called.bytes reach_word; room = c.line-size.ensures.room }
