use Rattle.std.proofs.Common.{arith}
use Rattle.report.proofs.PageSizes.{counted_more, counted_all}
use Rattle.report.proofs.sized.aces_size.Goals as goal

pub overflow_add-total : goal.overflow_add-total
overflow_add-total c = omega (arith, c.requires, c.loop-a.invariant.most, c.loop-a-test.true, c.page_size-total.ensures.1)

pub loop-a-preserved : goal.loop-a-preserved
loop-a-preserved c = record {
  most = omega (arith, c.loop-a.invariant.most, c.page_size-total.ensures.1);
  counted = λ luns. counted_more luns c.args.aces.now _ _ c.loop-a-test.true c.page_size-total.ensures.0 (c.loop-a.invariant.counted luns);
}

pub returns : goal.returns
returns c = λ luns. counted_all luns c.args.aces.now _ c.loop-a-test.false (c.loop-a.invariant.counted luns)
