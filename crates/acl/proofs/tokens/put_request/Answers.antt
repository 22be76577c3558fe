-- The writers one after the other.
use Rattle.std.proofs.Common.{rules}
use Rattle.wire.proofs.Writing.{then}
use Rattle.acl.specs.State.{request_text}
use Rattle.acl.proofs.tokens.put_request.Goals as goal

pub returns-clause-wrote : goal.returns-clause-wrote
unfolding request_text
returns-clause-wrote c = search (rules, then)
