-- One digit after the other.
use Rattle.wire.proofs.Writing.{then}
use Rattle.journal.proofs.printing.put_pair.Goals as goal

pub returns : goal.returns
returns c = rw (← c.hex_char.ensures, ← c.hex_char-2.ensures) (then c.put-half.ensures c.put.ensures)
