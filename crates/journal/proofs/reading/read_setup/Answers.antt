-- A fault is said to be so; else both byte strings stand in their buffers, which have room for half a line.
use mathlib.Core.Path.{refl, ap, ◌∙◌}
use native.Mathlib.Omega.{arith}
use lib.ListN.{length}
use Rattle.journal.specs.Words.{next_word, rest_of}
use Rattle.journal.specs.Kinds.{is_bytes, bytes_of}
use Rattle.journal.proofs.Lengths.{bytes_fit, next_fit}
use Rattle.journal.proofs.Exits.{ended, unfit, fit, tested, handed, setup_first, setup_second, setup_end, setup_read}
use Rattle.journal.proofs.reading.read_setup.Goals as goal

pub returns-in_err-needs-clause-err : goal.returns-in_err-needs-clause-err
returns-in_err-needs-clause-err c =
    let no = unfit is_bytes (λ w. tt) _ c.next.ensures.word (c.then_some.ensures ∙ tested c.is_bytes.ensures) c.needs.ensures c.in_err-needs.was in
    handed c.from_residual.result c.from_residual.ensures.1 no.1 (setup_first c.args.s.now no.0)

pub returns-in_err-needs-2-clause-err : goal.returns-in_err-needs-2-clause-err
returns-in_err-needs-2-clause-err c =
    let first = fit is_bytes (λ w. tt) _ c.next.ensures.word (c.then_some.ensures ∙ tested c.is_bytes.ensures) c.needs.ensures c.in_ok-needs.was in
    let no = unfit is_bytes (λ w. tt) _ (c.next-2.ensures.word ∙ ap next_word c.next.ensures.rest) (c.then_some-2.ensures ∙ tested c.is_bytes-2.ensures) c.needs-2.ensures c.in_err-needs-2.was in
    handed c.from_residual-in_err-needs-2.result c.from_residual-in_err-needs-2.ensures.1 no.1 (setup_second c.args.s.now first.0 no.0)

pub returns-in_err-ends-clause-err : goal.returns-in_err-ends-clause-err
returns-in_err-ends-clause-err c =
    let first = fit is_bytes (λ w. tt) _ c.next.ensures.word (c.then_some.ensures ∙ tested c.is_bytes.ensures) c.needs.ensures c.in_ok-needs.was in
    let second = fit is_bytes (λ w. tt) _ (c.next-2.ensures.word ∙ ap next_word c.next.ensures.rest) (c.then_some-2.ensures ∙ tested c.is_bytes-2.ensures) c.needs-2.ensures c.in_ok-needs-2.was in
    let no = unfit ended (λ w. tt) _ (c.next-2.ensures.rest ∙ ap rest_of c.next.ensures.rest) refl c.ends.ensures c.in_err-ends.was in
    handed c.from_residual-in_err-ends.result c.from_residual-in_err-ends.ensures.1 no.1 (setup_end c.args.s.now first.0 second.0 no.0)

pub put_bytes_of-requires : goal.put_bytes_of-requires
put_bytes_of-requires c =
    let first = fit is_bytes (λ w. tt) _ c.next.ensures.word (c.then_some.ensures ∙ tested c.is_bytes.ensures) c.needs.ensures c.in_ok-needs.was in
    (ap is_bytes c.next.ensures.word ∙ first.0, omega (arith, ap (λ w. length (bytes_of w)) c.next.ensures.word, bytes_fit c.args.s.now c.requires.0, c.requires.1))

pub put_bytes_of-requires-2 : goal.put_bytes_of-requires-2
put_bytes_of-requires-2 c =
    let second = fit is_bytes (λ w. tt) _ (c.next-2.ensures.word ∙ ap next_word c.next.ensures.rest) (c.then_some-2.ensures ∙ tested c.is_bytes-2.ensures) c.needs-2.ensures c.in_ok-needs-2.was in
    let word = (c.next-2.ensures.word ∙ ap next_word c.next.ensures.rest) in
    (ap is_bytes word ∙ second.0, omega (arith, ap (λ w. length (bytes_of w)) word, next_fit c.args.s.now c.requires.0, c.requires.2))

pub returns-clause-ok : goal.returns-clause-ok
returns-clause-ok c =
    let first = fit is_bytes (λ w. tt) _ c.next.ensures.word (c.then_some.ensures ∙ tested c.is_bytes.ensures) c.needs.ensures c.in_ok-needs.was in
    let second = fit is_bytes (λ w. tt) _ (c.next-2.ensures.word ∙ ap next_word c.next.ensures.rest) (c.then_some-2.ensures ∙ tested c.is_bytes-2.ensures) c.needs-2.ensures c.in_ok-needs-2.was in
    setup_read c.args.s.now first.0 second.0 c.requires.0 (fit ended (λ w. tt) _ (c.next-2.ensures.rest ∙ ap rest_of c.next.ensures.rest) refl c.ends.ensures c.in_ok-ends.was).0 c.next.ensures.word (c.next-2.ensures.word ∙ ap next_word c.next.ensures.rest) c.put_bytes_of.ensures c.put_bytes_of-2.ensures
