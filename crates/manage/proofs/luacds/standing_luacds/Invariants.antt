-- The LUACDs so far, and those of the descriptors that are left, are together the ones that stand.
use lib.ListN.{length}
use Rattle.manage.proofs.Standing.{Standing}
use Rattle.manage.proofs.luacds.standing_luacds.Given as goal

abbrev pub invariant-loop-d : goal.invariant-loop-d
invariant-loop-d l = Standing l.luns l.run l.filled l.descriptors

abbrev pub decreases-loop-d : goal.decreases-loop-d
decreases-loop-d l = length l.descriptors
