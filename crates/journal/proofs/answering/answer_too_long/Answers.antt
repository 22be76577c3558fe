-- The line's number, the message and the end of the line, one after the other.
use Rattle.journal.proofs.Told.{told, number_most, line_most, in_parts}
use Rattle.journal.specs.Replay.{step_line}
use Rattle.wire.proofs.Writing.{then}
use native.Mathlib.Omega.{arith}
use mathlib.Core.Path.{refl, ◌∙◌}
use mathlib.Core.List.{◌++◌}
use Rattle.journal.specs.Texts.{line_text, decimal_text, colon_text, long_text}
use Rattle.journal.proofs.answering.answer_too_long.Goals as goal

pub put_bytes-told-requires : goal.put_bytes-told-requires
unfolding step_line
put_bytes-told-requires c = omega (arith, c.put_line-at.ensures.ended, number_most c.args.number)

pub put-size-requires : goal.put-size-requires
unfolding step_line
put-size-requires c = omega (arith, c.put_line-at.ensures.ended, c.put_bytes-told.ensures.ended, number_most c.args.number)

pub returns : goal.returns
unfolding step_line
returns c =
    let n = c.args.number in
    let message = colon_text ++ long_text in
    let line = told (then (then c.put_line-at.ensures c.put_bytes-told.ensures) c.put-size.ensures) (line_most (line_text ++ decimal_text n) message (number_most n) (omega arith)) c.requires c.requires in
    record { state = refl; text = line.0 ∙ in_parts n message; room = line.1 }
