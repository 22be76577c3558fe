-- The number, the LUN and the end of the line are tested in the order of the definition; each exit is its case.
use mathlib.Core.Path.{refl, ap, ◌∙◌}
use Rattle.journal.specs.Words.{next_word, rest_of}
use Rattle.journal.specs.Kinds.{is_number, decimal_of, is_digits, digits_of}
use Rattle.journal.proofs.Exits.{ended, unfit, fit, handed, route_number, route_digits, route_end, route_said}
use Rattle.journal.proofs.reading.read_route.Goals as goal

pub returns-in_err-i-clause-err : goal.returns-in_err-i-clause-err
returns-in_err-i-clause-err c =
    let no = unfit is_number decimal_of _ c.next.ensures.word c.number.ensures c.needs.ensures c.in_err-i.was in
    handed c.from_residual.result c.from_residual.ensures.1 no.1 (route_number c.args.s.now no.0)

pub returns-in_err-lun-clause-err : goal.returns-in_err-lun-clause-err
returns-in_err-lun-clause-err c =
    let first = fit is_number decimal_of _ c.next.ensures.word c.number.ensures c.needs.ensures c.in_ok-i.was in
    let no = unfit is_digits digits_of _ (c.next-2.ensures.word ∙ ap next_word c.next.ensures.rest) c.digits_word.ensures c.needs-2.ensures c.in_err-lun.was in
    handed c.from_residual-in_err-lun.result c.from_residual-in_err-lun.ensures.1 no.1 (route_digits c.args.s.now first.0 no.0)

pub returns-in_err-ends-clause-err : goal.returns-in_err-ends-clause-err
returns-in_err-ends-clause-err c =
    let first = fit is_number decimal_of _ c.next.ensures.word c.number.ensures c.needs.ensures c.in_ok-i.was in
    let second = fit is_digits digits_of _ (c.next-2.ensures.word ∙ ap next_word c.next.ensures.rest) c.digits_word.ensures c.needs-2.ensures c.in_ok-lun.was in
    let no = unfit ended (λ w. tt) _ (c.next-2.ensures.rest ∙ ap rest_of c.next.ensures.rest) refl c.ends.ensures c.in_err-ends.was in
    handed c.from_residual-in_err-ends.result c.from_residual-in_err-ends.ensures.1 no.1 (route_end c.args.s.now first.0 second.0 no.0)

pub returns-clause-ok : goal.returns-clause-ok
returns-clause-ok c =
    let first = fit is_number decimal_of _ c.next.ensures.word c.number.ensures c.needs.ensures c.in_ok-i.was in
    let second = fit is_digits digits_of _ (c.next-2.ensures.word ∙ ap next_word c.next.ensures.rest) c.digits_word.ensures c.needs-2.ensures c.in_ok-lun.was in
    λ a b. route_said c.args.s.now first.0 second.0 (fit ended (λ w. tt) _ (c.next-2.ensures.rest ∙ ap rest_of c.next.ensures.rest) refl c.ends.ensures c.in_ok-ends.was).0 first.1 second.1
