-- No bytes are a dash, and others are in hex.
use Rattle.journal.proofs.Printed.{text_none, text_so}
use Rattle.journal.proofs.printing.put_bytes.Goals as goal

pub returns-then-is_empty : goal.returns-then-is_empty
returns-then-is_empty c = rw (text_none c.args.src.now (c.is_empty.ensures) c.if-is_empty.true) c.put.ensures

pub returns-else-is_empty : goal.returns-else-is_empty
returns-else-is_empty c = rw (text_so c.args.src.now (c.is_empty.ensures) c.if-is_empty.false) c.put_hex.ensures
