-- How enrolments change, and what an enrolment is, in the enums of the code.
use Rattle.std.specs.Prelude.{ℕ, List, map, cond, get_or, set, eqb}
use Rattle.paper.specs.Contents.{Enrolment, not_enrolled, enrolled, pending}
use Rattle.paper.specs.Effects.{suspended, ended_under}
use Rattle.tables.specs.declared.enrolments.Enrolment as code
use Rattle.tables.specs.declared.enrolments.Enrolment.TheVariants.{NotEnrolled, Enrolled, Pending}
use Rattle.tables.specs.declared.enrolments.Change.{Change}
use Rattle.tables.specs.declared.enrolments.Change.TheVariants.{Joined, Left, LinkEvent, Flushed, EndedUnder}

-- the enrolments after a change; the AccessID is the one that is joined, or under which enrolments end
abbrev pub changed : Change → List ℕ → List Enrolment → List Enrolment
changed (Joined i) id es = set es i (enrolled id)
changed (Left i) id es = set es i not_enrolled
changed (LinkEvent i) id es = set es i (suspended (get_or es i not_enrolled))
changed Flushed id es = map suspended es
changed EndedUnder id es = map (ended_under id) es

-- the same for the enrolment of initiator i
abbrev pub changed_at : Change → List ℕ → ℕ → Enrolment → Enrolment
changed_at (Joined j) id i e = cond (eqb i j) (enrolled id) e
changed_at (Left j) id i e = cond (eqb i j) not_enrolled e
changed_at (LinkEvent j) id i e = cond (eqb i j) (suspended e) e
changed_at Flushed id i e = suspended e
changed_at EndedUnder id i e = ended_under id e

-- an enrolment, in the enum of the code
abbrev pub meant : code.Enrolment → Enrolment
meant NotEnrolled = not_enrolled
meant (Enrolled id) = enrolled id.now
meant (Pending id) = pending id.now
