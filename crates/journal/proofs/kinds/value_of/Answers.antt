use Rattle.std.proofs.Common.{◌≡◌, ◌+◌, ◌-◌, ◌*◌, Some, sym, ap, ◌∙◌, arith, drop, get_or}
use borrow.Author.Tests.{lt-ltb}
use lib.ListN.{drop_of_length-le}
use Rattle.journal.specs.Kinds.{decimal_from, decimal_of}
use Rattle.journal.proofs.Runs.{next_byte}
use Rattle.journal.proofs.Digits.{decimal_step, decimal_end, too_large}
use Rattle.journal.proofs.kinds.value_of.Goals as goal

pub returns-in_err-checked_mul : goal.returns-in_err-checked_mul
returns-in_err-checked_mul c =
    rw (too_large _ _ _ c.loop-b.invariant.0 c.loop-b-test.true (omega (arith, c.in_err-checked_mul.ensures))) c.from_residual.ensures

pub returns-in_err-value : goal.returns-in_err-value
returns-in_err-value c =
    rw (too_large _ _ _ c.loop-b.invariant.0 c.loop-b-test.true (omega (arith, c.digit_value.ensures, c.in_ok-checked_mul.ensures, c.in_err-value.ensures))) c.from_residual-in_err-value.ensures

pub loop-b-preserved : goal.loop-b-preserved
loop-b-preserved c =
    let w = c.args.w.now in
    let k = c.loop-b.b-index in
    let e : c.loop-b.value * 10 + (get_or w k 0 - 0x30) ≡ c.in_ok-value.value = omega (arith, c.digit_value.ensures, c.in_ok-checked_mul.ensures, c.in_ok-value.ensures) in
    (c.loop-b.invariant.0 ∙ (decimal_step _ (next_byte w k c.loop-b-test.true) ∙ ap (λ n. decimal_from n (drop (k + 1) w)) e), omega (arith, c.in_ok-value.ensures))

pub returns : goal.returns
returns c =
    let e = c.loop-b.invariant.0 ∙ decimal_end _ (drop_of_length-le c.args.w.now c.loop-b-test.false) in
    rw (lt-ltb (decimal_of c.args.w.now) 18446744073709551616 (omega (arith, e, c.loop-b.invariant.1))) (ap Some (sym e))
