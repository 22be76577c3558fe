-- The names that are left are what is left to be written.
use lib.ListN.{length}
use Rattle.lists.specs.Lists.{below}
use Rattle.audit.proofs.Writers.{Laid}
use Rattle.audit.proofs.Sentences.{name_text}
use Rattle.audit.proofs.sentence.put_joined.Given as goal

abbrev pub invariant-loop-k : goal.invariant-loop-k
invariant-loop-k l = Laid (name_text l.names) (below (length l.names)) 25 l.limit l.at l.initial.text l.k l.to l.text
