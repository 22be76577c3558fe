-- One initiator, or more, and then the names.
use borrow.Author.Tests.{eq-eqb, ne_eqb}
use Rattle.wire.proofs.Writing.{then}
use Rattle.audit.specs.Sentence.{named}
use Rattle.audit.proofs.sentence.put_named.Goals as goal

pub returns-then-names-eq1 : goal.returns-then-names-eq1
unfolding named
returns-then-names-eq1 c = rw (eq-eqb _ _ c.if-names-eq1.true) (then c.put_bytes-one.ensures c.put_joined.ensures)

pub returns : goal.returns
unfolding named
returns c = rw (ne_eqb _ _ c.if-names-eq1.false) (then c.put_bytes-many.ensures c.put_joined-2.ensures)
