-- The values are those of the answer that the opening is.
use Rattle.paper.proofs.outcomes.opening_of.Goals as goal

pub returns : goal.returns
returns c = rw (c.values_of.ensures, c.answer_of.ensures)
