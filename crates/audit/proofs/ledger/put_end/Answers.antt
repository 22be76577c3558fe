-- A ground that still stands or began too late writes nothing; else it and what it ends with.
use borrow.Author.Tests.{le-ltb}
use Rattle.wire.proofs.Writing.{then}
use Rattle.audit.specs.Ledger.{ends_by}
use Rattle.audit.proofs.ledger.put_end.Goals as goal

pub returns : goal.returns
unfolding ends_by
returns c = rw (← c.is_among.ensures, c.if-is_among.false, ← c.be64.ensures, le-ltb _ _ c.if-to-be64.false) (then c.put_bytes-begun.ensures c.put_deed.ensures)
