use Rattle.std.proofs.Common.{arith}
use Rattle.wire.proofs.Writing.{left_start}
use Rattle.report.proofs.Written.{one_more, ends_more, entry_in, left_more, left_none, all_passed}
use Rattle.report.proofs.each.put_each.Goals as goal

pub loop-x-init : goal.loop-x-init
loop-x-init g c = record {
  near = λ most ends. omega arith;
  left = λ bytes limit w. left_start _ _ _ _;
}

pub put-to-requires : goal.put-to-requires
put-to-requires g c =
    c.requires.takes _ _ _ (entry_in _ c.loop-x-test.true c.x-item.is)
    (one_more _ _ (c.loop-x.invariant.near _ c.requires.ends) c.loop-x-test.true c.requires.room)

pub loop-x-preserved : goal.loop-x-preserved
loop-x-preserved g c =
    let there = entry_in _ c.loop-x-test.true c.x-item.is in
    record {
      near = λ most ends. ends_more _ most _ (c.loop-x.invariant.near most ends) (ends _ _ _ _ _ there c.put-to.ensures);
      left = λ bytes limit w. left_more _ c.loop-x-test.true c.x-item.is bytes (c.loop-x.invariant.left bytes limit w) (w _ _ _ _ _ there c.put-to.ensures);
    }

pub returns : goal.returns
returns g c = record {
  fits = λ most ends. rw (all_passed c.loop-x.auto.x-index-end c.loop-x-test.false) at (c.loop-x.invariant.near most ends);
  wrote = λ bytes limit w. left_none bytes _ c.loop-x-test.false (c.loop-x.invariant.left bytes limit w);
}
