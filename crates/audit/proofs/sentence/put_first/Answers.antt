-- The unit, the lines, and the end of the line.
use Rattle.audit.proofs.Sentences.{first_most}
use Rattle.audit.proofs.Writers.{ends_within}
use Rattle.wire.proofs.Writing.{then}
use Rattle.audit.specs.Sentence.{first_text}
use Rattle.audit.proofs.sentence.put_first.Goals as goal

pub returns-clause-text : goal.returns-clause-text
unfolding first_text
returns-clause-text c = then c.put_unit-named.ensures (then c.put_lines-told.ensures c.put.ensures)

pub returns-clause-size : goal.returns-clause-size
returns-clause-size c = ends_within (first_most _ _ _) (returns-clause-text c)
