-- The writers one after the other.
use Rattle.std.proofs.Common.{rules}
use Rattle.wire.proofs.Writing.{then}
use Rattle.acl.specs.State.{unit_line}
use Rattle.acl.proofs.units.put_line.Goals as goal

pub returns-clause-wrote : goal.returns-clause-wrote
unfolding unit_line
returns-clause-wrote c = search (rules, then)
