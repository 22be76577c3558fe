use Rattle.std.proofs.Common.{arith, ap, ◌∙◌, ◌≡◌, ◌+◌, ◌-◌, ◌*◌}
use Rattle.paper.specs.Tables.{enrolment_bytes}
use Rattle.tables.proofs.Enrolling.{enrol_none, enrol_more, enrol_end}
use Rattle.tables.proofs.enrolments.enrolments_after.Goals as goal

pub loop-i-init : goal.loop-i-init
loop-i-init c = enrol_none _ _ _ _ c.requires

pub loop-i-preserved : goal.loop-i-preserved
loop-i-preserved c =
    let i = c.loop-i.i in
    let size : 25 * i + 25 - 25 * i ≡ 25 = omega arith in
    rw size (enrol_more _ _ _ _ c.loop-i.invariant c.loop-i-test.true (rw size at c.from_bytes.ensures) (c.copy_from_slice.ensures.after ∙ (c.to_bytes.ensures ∙ ap enrolment_bytes c.changed-new.ensures)))

pub returns : goal.returns
returns c = rw (enrol_end _ _ _ _ c.loop-i.invariant c.loop-i-test.false)
