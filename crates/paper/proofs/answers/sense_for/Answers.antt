-- Each case is the definition's own clause; a condition's sense is what sense_of ensures.
use Rattle.paper.proofs.answers.sense_for.Goals as goal

pub returns-in-Check : goal.returns-in-Check
returns-in-Check c = cc
