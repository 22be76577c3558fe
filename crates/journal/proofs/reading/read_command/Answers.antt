-- A fault is said to be so; else the CDB and the list stand in their buffers, and the words behind them are read.
use mathlib.Core.Path.{refl, ap, ◌∙◌}
use native.Mathlib.Omega.{arith}
use lib.ListN.{length}
use Rattle.journal.specs.Words.{next_word, rest_of}
use Rattle.journal.specs.Kinds.{is_bytes, bytes_of, is_list, is_number, decimal_of}
use Rattle.journal.proofs.Lengths.{next_fit}
use Rattle.journal.proofs.Exits.{unfit, fit, tested, handed, list_fits, command_number, command_cdb, command_list, command_lent, command_read}
use Rattle.journal.proofs.reading.read_command.Goals as goal

pub returns-in_err-i-clause-err : goal.returns-in_err-i-clause-err
returns-in_err-i-clause-err c =
    let no = unfit is_number decimal_of _ c.next.ensures.word c.number.ensures c.needs.ensures c.in_err-i.was in
    handed c.from_residual.result c.from_residual.ensures.1 no.1 (command_number c.args.s.now no.0)

pub returns-in_err-needs-clause-err : goal.returns-in_err-needs-clause-err
returns-in_err-needs-clause-err c =
    let first = fit is_number decimal_of _ c.next.ensures.word c.number.ensures c.needs.ensures c.in_ok-i.was in
    let no = unfit is_bytes (λ w. tt) _ (c.next-2.ensures.word ∙ ap next_word c.next.ensures.rest) (c.then_some.ensures ∙ tested c.is_bytes.ensures) c.needs-2.ensures c.in_err-needs.was in
    handed c.from_residual-in_err-needs.result c.from_residual-in_err-needs.ensures.1 no.1 (command_cdb c.args.s.now first.0 no.0)

pub returns-in_err-needs-2-clause-err : goal.returns-in_err-needs-2-clause-err
returns-in_err-needs-2-clause-err c =
    let first = fit is_number decimal_of _ c.next.ensures.word c.number.ensures c.needs.ensures c.in_ok-i.was in
    let second = fit is_bytes (λ w. tt) _ (c.next-2.ensures.word ∙ ap next_word c.next.ensures.rest) (c.then_some.ensures ∙ tested c.is_bytes.ensures) c.needs-2.ensures c.in_ok-needs.was in
    let no = unfit is_list (λ w. tt) _ (c.next-3.ensures.word ∙ ap next_word (c.next-2.ensures.rest ∙ ap rest_of c.next.ensures.rest)) (c.then_some-2.ensures ∙ tested c.is_list.ensures) c.needs-3.ensures c.in_err-needs-2.was in
    handed c.from_residual-in_err-needs-2.result c.from_residual-in_err-needs-2.ensures.1 no.1 (command_list c.args.s.now first.0 second.0 no.0)

pub returns-in_err-parsed-clause-err : goal.returns-in_err-parsed-clause-err
returns-in_err-parsed-clause-err c =
    let first = fit is_number decimal_of _ c.next.ensures.word c.number.ensures c.needs.ensures c.in_ok-i.was in
    let second = fit is_bytes (λ w. tt) _ (c.next-2.ensures.word ∙ ap next_word c.next.ensures.rest) (c.then_some.ensures ∙ tested c.is_bytes.ensures) c.needs-2.ensures c.in_ok-needs.was in
    let third = fit is_list (λ w. tt) _ (c.next-3.ensures.word ∙ ap next_word (c.next-2.ensures.rest ∙ ap rest_of c.next.ensures.rest)) (c.then_some-2.ensures ∙ tested c.is_list.ensures) c.needs-3.ensures c.in_ok-needs-2.was in
    handed c.from_residual-in_err-parsed.result c.from_residual-in_err-parsed.ensures.1 refl (c.in_err-parsed.ensures.err _ _ ∙ command_lent c.args.s.now first.0 second.0 third.0 first.1 (c.next-3.ensures.rest ∙ ap rest_of (c.next-2.ensures.rest ∙ ap rest_of c.next.ensures.rest)))

pub put_bytes_of-requires : goal.put_bytes_of-requires
put_bytes_of-requires c =
    let second = fit is_bytes (λ w. tt) _ (c.next-2.ensures.word ∙ ap next_word c.next.ensures.rest) (c.then_some.ensures ∙ tested c.is_bytes.ensures) c.needs-2.ensures c.in_ok-needs.was in
    let word = (c.next-2.ensures.word ∙ ap next_word c.next.ensures.rest) in
    (ap is_bytes word ∙ second.0, omega (arith, ap (λ w. length (bytes_of w)) word, next_fit c.args.s.now c.requires.0, c.requires.1))

pub put_bytes_of-requires-2 : goal.put_bytes_of-requires-2
put_bytes_of-requires-2 c =
    let third = fit is_list (λ w. tt) _ (c.next-3.ensures.word ∙ ap next_word (c.next-2.ensures.rest ∙ ap rest_of c.next.ensures.rest)) (c.then_some-2.ensures ∙ tested c.is_list.ensures) c.needs-3.ensures c.in_ok-needs-2.was in
    let word = (c.next-3.ensures.word ∙ ap next_word (c.next-2.ensures.rest ∙ ap rest_of c.next.ensures.rest)) in
    let fits = list_fits _ (ap is_list word ∙ third.0) in
    (fits.0, omega (arith, fits.1, c.requires.2))

pub returns-clause-ok : goal.returns-clause-ok
returns-clause-ok c =
    let first = fit is_number decimal_of _ c.next.ensures.word c.number.ensures c.needs.ensures c.in_ok-i.was in
    let second = fit is_bytes (λ w. tt) _ (c.next-2.ensures.word ∙ ap next_word c.next.ensures.rest) (c.then_some.ensures ∙ tested c.is_bytes.ensures) c.needs-2.ensures c.in_ok-needs.was in
    let third = fit is_list (λ w. tt) _ (c.next-3.ensures.word ∙ ap next_word (c.next-2.ensures.rest ∙ ap rest_of c.next.ensures.rest)) (c.then_some-2.ensures ∙ tested c.is_list.ensures) c.needs-3.ensures c.in_ok-needs-2.was in
    command_read c.args.s.now first.0 second.0 third.0 c.requires.0 first.1 (c.next-2.ensures.word ∙ ap next_word c.next.ensures.rest) (c.next-3.ensures.word ∙ ap next_word (c.next-2.ensures.rest ∙ ap rest_of c.next.ensures.rest)) (c.next-3.ensures.rest ∙ ap rest_of (c.next-2.ensures.rest ∙ ap rest_of c.next.ensures.rest)) c.put_bytes_of.ensures c.put_bytes_of-2.ensures c.in_ok-parsed.ensures.ok
