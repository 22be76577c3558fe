use Rattle.wire.proofs.Writing.{then}
use Rattle.audit.specs.Sentence.{place_text}
use Rattle.audit.proofs.sentence.put_place.Goals as goal

pub returns-in-Some : goal.returns-in-Some
unfolding place_text
returns-in-Some c = rw c.in-Some.is (then c.put_bytes-told.ensures c.put_pair.ensures)
