-- The word, then the sense that the condition has.
use Rattle.wire.proofs.Writing.{then}
use Rattle.journal.proofs.telling.put_check.Goals as goal

pub returns : goal.returns
returns c = then c.put_bytes-next.ensures (rw c.sense_of.ensures at c.put_hex.ensures)
