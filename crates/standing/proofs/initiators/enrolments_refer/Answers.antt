use Rattle.std.proofs.Common.{rules}
use Rattle.standing.proofs.Chunks.{enrolments_lem}
use Rattle.standing.proofs.initiators.enrolments_refer.Goals as goal

pub loop-e-init : goal.loop-e-init
loop-e-init c = rw c.parts-e-items.ensures (enrolments_lem c.args.c.now (search rules))
