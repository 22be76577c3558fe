-- Those that could open the unit, those that were pending, and the end of the line.
use Rattle.audit.proofs.Sentences.{answer_most}
use Rattle.audit.proofs.Writers.{ends_within}
use mathlib.Core.Path.{ap, ◌∙◌}
use lib.ListN.{take}
use Rattle.lists.proofs.Tables.{take_pad}
use Rattle.wire.proofs.Writing.{then}
use Rattle.audit.specs.Sentence.{answer_text}
use Rattle.audit.proofs.sentence.put_answer.Goals as goal

pub returns-clause-text : goal.returns-clause-text
unfolding answer_text
returns-clause-text c =
    let could = c.in_use.ensures.in_use ∙ ap (λ t. take t.count t.items) c.names-could.ensures ∙ take_pad 0 16 _ in
    let waited = c.in_use-2.ensures.in_use ∙ ap (λ t. take t.count t.items) c.names-waited.ensures ∙ take_pad 0 16 _ in
    then (rw could at c.put_could-first.ensures) (then (rw waited at c.put_waits-told.ensures) c.put.ensures)

pub returns-clause-size : goal.returns-clause-size
returns-clause-size c = ends_within (answer_most _ _ _) (returns-clause-text c)
