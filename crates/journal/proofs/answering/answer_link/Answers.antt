-- The outcome's state is the next, and its answer is what is told.
use Rattle.journal.specs.Replay.{plain_text, step_said}
use Rattle.journal.specs.Texts.{end_text}
use Rattle.journal.specs.Statements.{link_word}
use Rattle.paper.specs.declared.outcomes.Outcome.{Outcome}
use mathlib.Core.Path.{ap, ◌∙◌}
use mathlib.Core.List.{◌++◌}
use native.Mathlib.Omega.{arith}
use Rattle.journal.proofs.Told.{plain_most}
use Rattle.journal.proofs.answering.answer_link.Goals as goal

pub line-size-requires : goal.line-size-requires
line-size-requires c = (omega arith, tt, plain_most c.link_event-outcome.result.answer, omega arith, c.requires)

pub returns : goal.returns
unfolding step_said
returns c =
    let so = c.link_event-outcome.ensures in
    record { state = ap (λ (q : Outcome). q.state) so; text = c.line-size.ensures.text ∙ ap (λ (q : Outcome). (link_word ++ plain_text q.answer) ++ end_text) so; room = c.line-size.ensures.room }
