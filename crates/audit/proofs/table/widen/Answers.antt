use mathlib.Core.Path.{sym, ◌∙◌}
use Rattle.audit.proofs.Runs.{chunk_next, chunks_end}
use Rattle.audit.proofs.Columns.{widest_next, widest_end}
use Rattle.audit.proofs.table.widen.Goals as goal

pub loop-e-preserved : goal.loop-e-preserved
loop-e-preserved c =
    let v = c.loop-e.invariant in
    let next = chunk_next c.args.size c.loop-e.e-iterator c.next.new.self c.requires v.1 c.in-Some.e c.in-Some.ensures.steps in
    (c.widened-wide.auto.text ∙ v.0, next.0, v.2 ∙ widest_next _ _ _ next.2 c.widened-wide.ensures)

pub returns : goal.returns
returns c =
    let v = c.loop-e.invariant in
    sym (v.2 ∙ widest_end _ _ _ (chunks_end c.args.size c.loop-e.e-iterator c.next.new.self c.requires v.1 c.in-None.ensures.steps))
