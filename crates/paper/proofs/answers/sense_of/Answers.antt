-- The byte string has the fixed bytes; the code and its qualifier go to 12 and 13.
use Rattle.paper.specs.Answers.{sense_bytes}
use Rattle.paper.proofs.answers.sense_of.Goals as goal

pub returns : goal.returns
unfolding sense_bytes
returns c = rw c.code_of-c.ensures
