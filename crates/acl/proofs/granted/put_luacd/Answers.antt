-- The writers one after the other.
use Rattle.std.proofs.Common.{rules}
use Rattle.wire.proofs.Writing.{then}
use Rattle.acl.specs.State.{luacd_text}
use Rattle.acl.proofs.granted.put_luacd.Goals as goal

pub returns-clause-wrote : goal.returns-clause-wrote
unfolding luacd_text
returns-clause-wrote c = search (rules, then)
