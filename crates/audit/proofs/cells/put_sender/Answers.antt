-- A setup, a link event or the ground's own initiator is not told; another is.
use borrow.Author.Tests.{lt-ltb, ne_eqb}
use Rattle.wire.proofs.Writing.{then}
use Rattle.audit.specs.Cells.{sender_text}
use Rattle.audit.proofs.cells.put_sender.Goals as goal

pub returns : goal.returns
unfolding sender_text
returns c = rw (lt-ltb _ _ c.if-what-ge254.false, ne_eqb _ _ c.if-by-own.false) (then c.put_bytes-told.ensures c.put_decimal.ensures)
