-- A state that does not stand is passed over.
use Rattle.std.proofs.Common.{sym}
use mathlib.Core.Path.{◌∙◌}
use Rattle.wire.proofs.Writing.{wrote_none}
use Rattle.acl.specs.State.{state_text}
use Rattle.acl.proofs.telling.put_state.Goals as goal

pub returns-then-not-standing : goal.returns-then-not-standing
unfolding state_text
returns-then-not-standing c = rw (sym c.standing.ensures ∙ c.if-not-standing.true) (wrote_none _ _ _)

pub put_standing-requires : goal.put_standing-requires
put_standing-requires c = sym c.standing.ensures ∙ c.if-not-standing.false

pub returns : goal.returns
unfolding state_text
returns c = rw (sym c.standing.ensures ∙ c.if-not-standing.false) c.put_standing.ensures
