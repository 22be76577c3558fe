-- Nobody is told of, or a space, the names, and that they were pending.
use Rattle.wire.proofs.Writing.{then, wrote_none}
use Rattle.audit.specs.Sentence.{wait_part}
use Rattle.audit.proofs.sentence.put_waits.Goals as goal

pub returns-then-is_empty : goal.returns-then-is_empty
unfolding wait_part
returns-then-is_empty c = rw (← c.is_empty.ensures, c.if-is_empty.true) (wrote_none _ _ _)

pub returns : goal.returns
unfolding wait_part
returns c = rw (← c.is_empty.ensures, c.if-is_empty.false) (then c.put-space.ensures (then c.put_named-who.ensures c.put_pending.ensures))
