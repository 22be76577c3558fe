-- Three writers, one after the other.
use Rattle.wire.proofs.Writing.{then}
use Rattle.audit.specs.Sentence.{unit_part}
use Rattle.audit.proofs.sentence.put_unit.Goals as goal

pub returns : goal.returns
unfolding unit_part
returns c = then c.put_bytes-word.ensures (then c.put_decimal-number.ensures c.put_place.ensures)
