-- An array of blanks is no entries, padded.
use Rattle.paper.proofs.state.no_tokens.Goals as goal

pub returns : goal.returns
returns c = rw c.no_token.ensures
