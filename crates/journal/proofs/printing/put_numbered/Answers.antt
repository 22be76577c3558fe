-- The word, then the number.
use Rattle.wire.proofs.Writing.{then}
use Rattle.journal.proofs.printing.put_numbered.Goals as goal

pub returns : goal.returns
returns c = then c.put_bytes-next.ensures c.put_decimal.ensures
