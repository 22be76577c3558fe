-- The name, the sender, the word and the line, one after the other.
use Rattle.wire.proofs.Writing.{then}
use Rattle.audit.specs.Cells.{deed_text}
use Rattle.audit.proofs.cells.put_deed.Goals as goal

pub returns : goal.returns
unfolding deed_text
returns c = rw (c.byte-what.ensures, c.byte-by.ensures, c.byte-own.ensures, c.be64.ensures) at (then c.put_what-named.ensures (then c.put_sender-sent.ensures (then c.put_bytes-told.ensures c.put_decimal.ensures)))
