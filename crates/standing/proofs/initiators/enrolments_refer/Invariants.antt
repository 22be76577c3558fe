-- The enrolments that are left decide.
use Rattle.std.proofs.Common.{◌≡◌, drop}
use Rattle.lists.specs.Lists.{all}
use Rattle.paper.specs.Tables.{enrolments_of}
use Rattle.paper.specs.Standing.{enrolment_refers}
use Rattle.standing.proofs.Chunks.{refers}
use Rattle.standing.proofs.initiators.enrolments_refer.Given as goal

abbrev pub invariant-loop-e : goal.invariant-loop-e
invariant-loop-e l = all (enrolment_refers l.c) (enrolments_of l.c) ≡ all (refers l.c) (drop l.e-index l.e-items)
