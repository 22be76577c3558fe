-- The line's number, the word at fault and the end of the line, one after the other.
use Rattle.journal.proofs.Told.{told, number_most, expected_most, expected_text, line_most, in_parts}
use Rattle.journal.specs.Replay.{step_line}
use Rattle.wire.proofs.Writing.{then}
use native.Mathlib.Omega.{arith}
use mathlib.Core.Path.{refl, ◌∙◌}
use mathlib.Core.List.{◌++◌}
use Rattle.journal.specs.Texts.{line_text, decimal_text}
use Rattle.journal.proofs.answering.answer_fault.Goals as goal

pub put_expected-told-requires : goal.put_expected-told-requires
unfolding step_line
put_expected-told-requires c = omega (arith, c.put_line-at.ensures.ended, number_most c.args.number)

pub put-size-requires : goal.put-size-requires
unfolding step_line
put-size-requires c = omega (arith, c.put_line-at.ensures.ended, c.put_expected-told.ensures.ended, number_most c.args.number, expected_most c.args.which c.args.kind)

pub returns : goal.returns
unfolding step_line
returns c =
    let a = c.args in
    let message = expected_text a.which a.kind in
    let line = told (then (then c.put_line-at.ensures c.put_expected-told.ensures) c.put-size.ensures) (line_most (line_text ++ decimal_text a.number) message (number_most a.number) (omega (arith, expected_most a.which a.kind))) c.requires c.requires in
    record { state = refl; text = line.0 ∙ in_parts a.number message; room = line.1 }
