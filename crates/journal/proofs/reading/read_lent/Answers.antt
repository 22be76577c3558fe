-- RANDOM, BUFFER and the end of the line are tested in the order of the definition; each exit is its case.
use mathlib.Core.Path.{refl, ap, ◌∙◌}
use Rattle.journal.specs.Words.{next_word, rest_of}
use Rattle.journal.specs.Kinds.{is_buffer, decimal_of, is_digits, digits_of}
use Rattle.journal.proofs.Exits.{ended, unfit, fit, handed_any, lent_digits, lent_buffer, lent_end, lent_said}
use Rattle.journal.proofs.reading.read_lent.Goals as goal

pub returns-in_err-random-clause-err : goal.returns-in_err-random-clause-err
returns-in_err-random-clause-err c =
    let no = unfit is_digits digits_of _ c.next.ensures.word c.digits_word.ensures c.needs.ensures c.in_err-random.was in
    handed_any c.from_residual.result c.from_residual.ensures.1 no.1 (λ a b. lent_digits c.args.i a b c.args.s.now no.0)

pub returns-in_err-n-clause-err : goal.returns-in_err-n-clause-err
returns-in_err-n-clause-err c =
    let first = fit is_digits digits_of _ c.next.ensures.word c.digits_word.ensures c.needs.ensures c.in_ok-random.was in
    let no = unfit is_buffer decimal_of _ (c.next-2.ensures.word ∙ ap next_word c.next.ensures.rest) c.buffer.ensures c.needs-2.ensures c.in_err-n.was in
    handed_any c.from_residual-in_err-n.result c.from_residual-in_err-n.ensures.1 no.1 (λ a b. lent_buffer c.args.i a b c.args.s.now first.0 no.0)

pub returns-in_err-ends-clause-err : goal.returns-in_err-ends-clause-err
returns-in_err-ends-clause-err c =
    let first = fit is_digits digits_of _ c.next.ensures.word c.digits_word.ensures c.needs.ensures c.in_ok-random.was in
    let second = fit is_buffer decimal_of _ (c.next-2.ensures.word ∙ ap next_word c.next.ensures.rest) c.buffer.ensures c.needs-2.ensures c.in_ok-n.was in
    let no = unfit ended (λ w. tt) _ (c.next-2.ensures.rest ∙ ap rest_of c.next.ensures.rest) refl c.ends.ensures c.in_err-ends.was in
    handed_any c.from_residual-in_err-ends.result c.from_residual-in_err-ends.ensures.1 no.1 (λ a b. lent_end c.args.i a b c.args.s.now first.0 second.0 no.0)

pub returns-clause-ok : goal.returns-clause-ok
returns-clause-ok c =
    let first = fit is_digits digits_of _ c.next.ensures.word c.digits_word.ensures c.needs.ensures c.in_ok-random.was in
    let second = fit is_buffer decimal_of _ (c.next-2.ensures.word ∙ ap next_word c.next.ensures.rest) c.buffer.ensures c.needs-2.ensures c.in_ok-n.was in
    λ a b. lent_said c.args.i a b c.args.s.now first.0 second.0 (fit ended (λ w. tt) _ (c.next-2.ensures.rest ∙ ap rest_of c.next.ensures.rest) refl c.ends.ensures c.in_ok-ends.was).0 first.1 second.1
