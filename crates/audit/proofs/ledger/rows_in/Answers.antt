-- What is delivered begins with the header.
use mathlib.Core.Path.{sym}
use Rattle.audit.proofs.Grounds.{drop_front}
use Rattle.audit.proofs.ledger.rows_in.Goals as goal

pub returns-else-delivered-lt8 : goal.returns-else-delivered-lt8
returns-else-delivered-lt8 c = let a = c.args in sym (drop_front 8 a.delivered a.reply.now)
