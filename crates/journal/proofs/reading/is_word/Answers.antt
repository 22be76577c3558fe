-- Two words are the same where they are equal.
use Rattle.journal.proofs.Exits.{word_is}
use Rattle.journal.proofs.reading.is_word.Goals as goal

pub returns : goal.returns
returns c = word_is _ _ _ c.eq.ensures
