-- The values are those of the answer.
use Rattle.paper.proofs.outcomes.handed_back.Goals as goal

pub returns : goal.returns
returns c = rw c.values_of.ensures
