-- Nothing before the first, a comma before the others.
use borrow.Author.Tests.{eq-eqb, ne_eqb}
use Rattle.wire.proofs.Writing.{wrote_none}
use Rattle.acl.proofs.granted.put_between.Goals as goal

pub returns-then-k-eq0-clause-wrote : goal.returns-then-k-eq0-clause-wrote
returns-then-k-eq0-clause-wrote c = rw (eq-eqb c.args.k 0 c.if-k-eq0.true) (wrote_none _ _ _)

pub returns-else-k-eq0-clause-wrote : goal.returns-else-k-eq0-clause-wrote
returns-else-k-eq0-clause-wrote c = rw (ne_eqb c.args.k 0 c.if-k-eq0.false) c.put_bytes.ensures
