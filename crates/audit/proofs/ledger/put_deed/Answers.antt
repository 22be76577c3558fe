-- Three writers, one after the other.
use Rattle.wire.proofs.Writing.{then}
use Rattle.audit.proofs.ledger.put_deed.Goals as goal

pub returns : goal.returns
returns c = then c.put-what.ensures (then c.put-by.ensures c.put_be64.ensures)
