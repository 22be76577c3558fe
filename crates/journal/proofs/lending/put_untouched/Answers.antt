-- No byte is spoiled, and nothing is written; or the first is told.
use Rattle.journal.proofs.Lent.{untouched_kept, untouched_spoiled}
use Rattle.wire.proofs.Writing.{wrote_none}
use Rattle.journal.proofs.lending.put_untouched.Goals as goal

pub returns-in-Some : goal.returns-in-Some
returns-in-Some c = rw (untouched_spoiled c.args.reply.now c.spoiled_at.ensures c.in-Some.is) c.put_spoiled.ensures

pub returns-in-None : goal.returns-in-None
returns-in-None c = rw (untouched_kept c.args.reply.now c.spoiled_at.ensures c.in-None.is) (wrote_none _ _ _)
