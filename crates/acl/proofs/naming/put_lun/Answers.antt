-- The name, and two digits.
use Rattle.std.proofs.Common.{rules}
use Rattle.wire.proofs.Writing.{then}
use Rattle.acl.specs.State.{lun_text}
use Rattle.acl.proofs.naming.put_lun.Goals as goal

pub returns-clause-wrote : goal.returns-clause-wrote
unfolding lun_text
returns-clause-wrote c = search (rules, then)
