-- Within both runs the parts are compared; else the bytes, one by one.
use Rattle.std.proofs.Common.{◌≡◌, ◌∙◌, sym, rules, length, take, length-take, get_or, arith}
use Rattle.std.proofs.lemmas.Iterator.{cases_from_all, YieldsList-from_range}
use borrow.Author.Tests.{tests}
use mathlib.Core.Logic.{◌≢◌}
use Rattle.lists.proofs.Bytes.{same_sym}
use Rattle.wire.proofs.Comparing.{same_slices, same_cases}
use Rattle.wire.proofs.same.Goals as goal

pub returns-then-n-b : goal.returns-then-n-b
returns-then-n-b c =
    let n : length (take c.args.n c.args.b.now) ≡ c.args.n = omega (arith, length-take c.args.n c.args.b.now, c.if-n-b.true) in
    rw n at c.starts_with.ensures.value ∙ same_slices _ _ _ c.if-n-b.true c.if-n-a.true ∙ sym (same_sym c.args.a.now c.args.b.now c.args.n)

pub returns-else-n-a : goal.returns-else-n-a
returns-else-n-a c =
    same_cases _ _ _ _ (cases_from_all _ _ _ (λ i. get_or c.args.a.now i 0 ≡ get_or c.args.b.now i 0) (λ i. get_or c.args.a.now i 0 ≢ get_or c.args.b.now i 0) c.all.ensures.ran (YieldsList-from_range 0 c.args.n c.args.n (cc) (omega arith)) (λ x q k. search (rules, tests)) (λ x q k. search (rules, tests)))
