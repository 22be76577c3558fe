-- Four writers, one after the other.
use Rattle.wire.proofs.Writing.{then}
use Rattle.audit.specs.Sentence.{could_part}
use Rattle.audit.proofs.sentence.put_could.Goals as goal

pub returns : goal.returns
unfolding could_part
returns c = then c.put_openers-who.ensures (then c.put_bytes-open.ensures (then c.put_decimal-told.ensures c.put_bytes.ensures))
