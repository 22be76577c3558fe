-- What the LUN opens is told, and the state stays.
use Rattle.journal.specs.Replay.{opened_text, step_said}
use Rattle.journal.specs.Texts.{end_text}
use Rattle.journal.specs.Statements.{route_word}
use Rattle.paper.specs.declared.outcomes.Opening.{Opening}
use mathlib.Core.Path.{ap, ◌∙◌, refl}
use mathlib.Core.List.{◌++◌}
use native.Mathlib.Omega.{arith}
use Rattle.journal.proofs.Told.{opened_most}
use Rattle.journal.proofs.answering.answer_route.Goals as goal

pub line-size-requires : goal.line-size-requires
line-size-requires c = (omega arith, tt, opened_most c.route-opening.result.opened, omega arith, c.requires)

pub returns : goal.returns
unfolding step_said
returns c =
    record { state = refl; text = c.line-size.ensures.text ∙ ap (λ (q : Opening). (route_word ++ opened_text q.opened) ++ end_text) c.route-opening.ensures; room = c.line-size.ensures.room }
