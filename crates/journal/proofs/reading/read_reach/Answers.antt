-- The word is of its kind, and the only one.
use mathlib.Core.Path.{refl}
use Rattle.journal.specs.Kinds.{is_buffer, decimal_of}
use Rattle.journal.proofs.Exits.{ended, unfit, fit, handed, reach_buffer, reach_end, reach_said}
use Rattle.journal.proofs.reading.read_reach.Goals as goal

pub returns-in_err-n-clause-err : goal.returns-in_err-n-clause-err
returns-in_err-n-clause-err c =
    let no = unfit is_buffer decimal_of _ c.next.ensures.word c.buffer.ensures c.needs.ensures c.in_err-n.was in
    handed c.from_residual.result c.from_residual.ensures.1 no.1 (reach_buffer c.args.s.now no.0)

pub returns-in_err-ends-clause-err : goal.returns-in_err-ends-clause-err
returns-in_err-ends-clause-err c =
    let yes = fit is_buffer decimal_of _ c.next.ensures.word c.buffer.ensures c.needs.ensures c.in_ok-n.was in
    let no = unfit ended (λ w. tt) _ c.next.ensures.rest refl c.ends.ensures c.in_err-ends.was in
    handed c.from_residual-in_err-ends.result c.from_residual-in_err-ends.ensures.1 no.1 (reach_end c.args.s.now yes.0 no.0)

pub returns-clause-ok : goal.returns-clause-ok
returns-clause-ok c =
    let yes = fit is_buffer decimal_of _ c.next.ensures.word c.buffer.ensures c.needs.ensures c.in_ok-n.was in
    λ a b. reach_said c.args.s.now yes.0 (fit ended (λ w. tt) _ c.next.ensures.rest refl c.ends.ensures c.in_ok-ends.was).0 yes.1
