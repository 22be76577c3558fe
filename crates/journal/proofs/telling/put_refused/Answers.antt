-- The number is that which the refusal has.
use Rattle.journal.proofs.telling.put_refused.Goals as goal

pub returns : goal.returns
returns c = rw c.number_of.ensures at c.put_numbered.ensures
