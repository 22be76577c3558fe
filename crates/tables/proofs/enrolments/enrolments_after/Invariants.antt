-- The changed enrolments are written one behind the other.
use Rattle.tables.proofs.Enrolling.{Enrolling}
use Rattle.tables.proofs.enrolments.enrolments_after.Given as goal

abbrev pub invariant-loop-i : goal.invariant-loop-i
invariant-loop-i l = Enrolling l.change l.id l.enrolments l.count l.i l.after
