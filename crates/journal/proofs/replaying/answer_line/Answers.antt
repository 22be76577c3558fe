-- What is read of a line is what it says, and that is answered.
use borrow.Author.Rules.{rules}
use Rattle.journal.proofs.LentSize.{lent_read}
use Rattle.journal.proofs.replaying.answer_line.Goals as goal

pub answer_read-requires : goal.answer_read-requires
answer_read-requires c = (lent_read c.args.line.now c.read_line-read.ensures.is, search rules, search rules)
