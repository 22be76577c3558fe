-- Three writers, one after the other.
use Rattle.wire.proofs.Writing.{then}
use Rattle.report.proofs.paged.put_page_head.Goals as goal

pub returns : goal.returns
returns c = then c.put-a.ensures (then c.put-b.ensures c.put_be16.ensures)
