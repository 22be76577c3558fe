-- Each has its words, and the AccessID stands behind them.
use Rattle.wire.proofs.Writing.{then}
use Rattle.acl.specs.State.{enrolment_text}
use Rattle.acl.proofs.initiators.put_enrolment.Goals as goal

pub returns-in-NotEnrolled-clause-wrote : goal.returns-in-NotEnrolled-clause-wrote
unfolding enrolment_text
returns-in-NotEnrolled-clause-wrote c = rw c.in-NotEnrolled.is c.put_bytes.ensures

pub returns-in-Enrolled-clause-wrote : goal.returns-in-Enrolled-clause-wrote
unfolding enrolment_text
returns-in-Enrolled-clause-wrote c = rw c.in-Enrolled.is (then c.put_bytes-a.ensures c.put_id.ensures.wrote)

pub returns-in-Pending-clause-wrote : goal.returns-in-Pending-clause-wrote
unfolding enrolment_text
returns-in-Pending-clause-wrote c = rw c.in-Pending.is (then c.put_bytes-b.ensures c.put_id-in-Pending.ensures.wrote)
