-- The row that opens is looked for first, then W.
use Rattle.paper.specs.Outcomes.{opens}
use Rattle.rows.proofs.opening.opened.Goals as goal

pub returns-in-Some : goal.returns-in-Some
unfolding opens
returns-in-Some c = rw (← c.opening_row.ensures, c.in-Some.is)

pub returns-then-pending_has : goal.returns-then-pending_has
unfolding opens
returns-then-pending_has c = rw (← c.opening_row.ensures, c.in_default.is, ← c.pending_has.ensures, c.if-pending_has.true)

pub returns : goal.returns
unfolding opens
returns c = rw (← c.opening_row.ensures, c.in_default.is, ← c.pending_has.ensures, c.if-pending_has.false)
