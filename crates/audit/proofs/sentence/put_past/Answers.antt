-- Past the last line the journal's end is told.
use borrow.Author.Tests.{lt-ltb, le-ltb}
use Rattle.wire.proofs.Writing.{then, wrote_none}
use Rattle.audit.specs.Sentence.{past_text}
use Rattle.audit.proofs.sentence.put_past.Goals as goal

pub returns-then-a : goal.returns-then-a
unfolding past_text
returns-then-a c = rw (le-ltb _ _ c.if-a.true) (wrote_none _ _ _)

pub returns : goal.returns
unfolding past_text
returns c = rw (lt-ltb _ _ c.if-a.false) (then c.put_bytes-told.ensures (then c.put_decimal-last.ensures c.put.ensures))
