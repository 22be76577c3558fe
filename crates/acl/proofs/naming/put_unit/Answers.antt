-- The name, and the number.
use Rattle.std.proofs.Common.{rules}
use Rattle.wire.proofs.Writing.{then}
use Rattle.acl.specs.State.{unit_text}
use Rattle.acl.proofs.naming.put_unit.Goals as goal

pub returns-clause-wrote : goal.returns-clause-wrote
unfolding unit_text
returns-clause-wrote c = search (rules, then)
