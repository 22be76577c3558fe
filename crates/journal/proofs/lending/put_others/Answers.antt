-- No byte behind those delivered is spoiled, or the first is told.
use Rattle.journal.proofs.Lent.{others_kept, others_spoiled}
use Rattle.journal.proofs.lending.put_others.Goals as goal

pub returns-in-Some : goal.returns-in-Some
returns-in-Some c = rw (others_spoiled c.args.n c.args.reply.now c.spoiled_at.ensures c.in-Some.is) c.put_spoiled.ensures

pub returns-in-None : goal.returns-in-None
returns-in-None c = rw (others_kept c.args.n c.args.reply.now c.spoiled_at.ensures c.in-None.is) c.put_bytes.ensures
