-- The writers one after the other.
use Rattle.std.proofs.Common.{rules}
use Rattle.wire.proofs.Writing.{then}
use Rattle.acl.specs.State.{head_text}
use Rattle.acl.proofs.naming.put_head.Goals as goal

pub returns-clause-wrote : goal.returns-clause-wrote
unfolding head_text
returns-clause-wrote c = search (rules, then)
