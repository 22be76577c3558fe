-- What setup starts is the next state, and its answer is what is told.
use Rattle.journal.specs.Replay.{plain_text, step_said}
use Rattle.journal.specs.Texts.{end_text}
use Rattle.journal.specs.Statements.{setup_word}
use Rattle.paper.specs.declared.outcomes.Started.{Started}
use mathlib.Core.Path.{ap, ◌∙◌}
use mathlib.Core.List.{◌++◌}
use native.Mathlib.Omega.{arith}
use Rattle.journal.proofs.Told.{plain_most}
use Rattle.journal.proofs.answering.answer_setup.Goals as goal

pub line-size-requires : goal.line-size-requires
line-size-requires c = (omega arith, tt, plain_most c.setup-begun.result.answer, omega arith, c.requires)

pub returns : goal.returns
unfolding step_said
returns c =
    let so = c.setup-begun.ensures in
    let told = c.line-size.ensures in
    record { state = (λ before. ap (λ (q : Started). q.state) so); text = (λ before. told.text ∙ ap (λ (q : Started). (setup_word ++ plain_text q.answer) ++ end_text) so); room = told.room }
