-- Each case is the definition's own clause.
use Rattle.paper.proofs.answers.answer_of.Goals as goal

pub returns-in-Closed : goal.returns-in-Closed
returns-in-Closed c = cc

pub returns-in-Barred : goal.returns-in-Barred
returns-in-Barred c = cc
