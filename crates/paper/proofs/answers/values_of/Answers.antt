-- The record of what the three callees ensure.
use Rattle.paper.proofs.answers.values_of.Goals as goal

pub returns : goal.returns
returns c = rw (c.sense_for.ensures, c.number_for.ensures, c.status_of.ensures)
