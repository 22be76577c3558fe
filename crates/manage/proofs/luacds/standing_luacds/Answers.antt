-- Each LUACD has a descriptor of its own in the run, so that their number fits. In the end all are put.
use Rattle.std.proofs.Common.{arith}
use Rattle.manage.proofs.Standing.{stand_first, stand_counts, stand_end}
use Rattle.manage.proofs.luacds.standing_luacds.Goals as goal

pub loop-d-init : goal.loop-d-init
loop-d-init c = stand_first c.args.luns.now c.args.run.now c.no_luacd.ensures c.descriptors_in-descriptors.ensures

pub join-requires : goal.join-requires
join-requires c = omega (arith, stand_counts c.loop-d.invariant c.in-Some.ensures.steps)

pub returns : goal.returns
returns c = stand_end c.loop-d.invariant c.in_default.ensures.steps.0
