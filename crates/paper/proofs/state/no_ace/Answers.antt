-- The blanks are the definition written out.
use Rattle.paper.proofs.state.no_ace.Goals as goal

pub returns : goal.returns
returns c = rw c.no_luacd.ensures
