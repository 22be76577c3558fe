-- The zeros are stored as far as there is room for them, which may be nowhere.
use Rattle.std.proofs.Common.{arith, rules, length-take, length-drop}
use Rattle.wire.proofs.Writing.{wrote_zeros, wrote_no_zeros}
use Rattle.wire.proofs.put_zeros.Goals as goal

pub returns-then-next-end : goal.returns-then-next-end
returns-then-next-end c = wrote_zeros _ _ _ _ _ _ _ _ c.min-end.ensures (omega arith) (omega arith) (c.fill.ensures.after (search rules)) (simp (length-take, length-drop) (omega arith))

pub returns-then-at-end : goal.returns-then-at-end
returns-then-at-end c = wrote_zeros _ _ _ _ _ _ _ _ c.min-end.ensures (omega arith) (omega arith) (c.fill-then-at-end.ensures.after (search rules)) (simp (length-take, length-drop) (omega arith))

pub returns-else-at-end : goal.returns-else-at-end
returns-else-at-end c = wrote_no_zeros _ _ _ _ (omega arith)
