-- The initiator's part of the enrolments is its enrolment.
use Rattle.rows.proofs.Initiator.{enrolment_is}
use Rattle.commands.proofs.enrolling.is_elsewhere.Goals as goal

pub returns : goal.returns
returns c = rw (enrolment_is c.args.c.now c.args.i c.requires.there, ← c.enrolment_part-part.ensures, ← c.from_bytes.ensures) c.elsewhere.ensures
