-- Five writers, one after the other.
use Rattle.wire.proofs.Writing.{then}
use Rattle.audit.specs.Sentence.{lines_part}
use Rattle.audit.proofs.sentence.put_lines.Goals as goal

pub returns : goal.returns
unfolding lines_part
returns c = then c.put_bytes-lines.ensures (then c.put_decimal-from.ensures (then c.put_bytes-to.ensures (then c.put_decimal-told.ensures c.put_past.ensures)))
