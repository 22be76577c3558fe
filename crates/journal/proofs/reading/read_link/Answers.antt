-- The word is of its kind, and the only one.
use mathlib.Core.Path.{refl}
use Rattle.journal.specs.Kinds.{is_number, decimal_of}
use Rattle.journal.proofs.Exits.{ended, unfit, fit, handed, link_number, link_end, link_said}
use Rattle.journal.proofs.reading.read_link.Goals as goal

pub returns-in_err-i-clause-err : goal.returns-in_err-i-clause-err
returns-in_err-i-clause-err c =
    let no = unfit is_number decimal_of _ c.next.ensures.word c.number.ensures c.needs.ensures c.in_err-i.was in
    handed c.from_residual.result c.from_residual.ensures.1 no.1 (link_number c.args.s.now no.0)

pub returns-in_err-ends-clause-err : goal.returns-in_err-ends-clause-err
returns-in_err-ends-clause-err c =
    let yes = fit is_number decimal_of _ c.next.ensures.word c.number.ensures c.needs.ensures c.in_ok-i.was in
    let no = unfit ended (λ w. tt) _ c.next.ensures.rest refl c.ends.ensures c.in_err-ends.was in
    handed c.from_residual-in_err-ends.result c.from_residual-in_err-ends.ensures.1 no.1 (link_end c.args.s.now yes.0 no.0)

pub returns-clause-ok : goal.returns-clause-ok
returns-clause-ok c =
    let yes = fit is_number decimal_of _ c.next.ensures.word c.number.ensures c.needs.ensures c.in_ok-i.was in
    λ a b. link_said c.args.s.now yes.0 (fit ended (λ w. tt) _ c.next.ensures.rest refl c.ends.ensures c.in_ok-ends.was).0 yes.1
