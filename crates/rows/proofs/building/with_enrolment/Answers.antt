use Rattle.rows.proofs.Appending.{join_none}
use Rattle.paper.specs.Rows.{enrolment_rows}
use Rattle.rows.proofs.building.with_enrolment.Goals as goal

pub returns-in-NotEnrolled : goal.returns-in-NotEnrolled
unfolding enrolment_rows
returns-in-NotEnrolled c = rw c.in-NotEnrolled.is (join_none _ _)

pub returns-in-Enrolled : goal.returns-in-Enrolled
unfolding enrolment_rows
returns-in-Enrolled c = rw c.in-Enrolled.is c.with_identifier.ensures

pub returns-in-Pending : goal.returns-in-Pending
unfolding enrolment_rows
returns-in-Pending c = rw c.in-Pending.is c.with_identifier-in-Pending.ensures
