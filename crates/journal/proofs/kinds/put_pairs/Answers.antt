use mathlib.Core.Path.{refl, sym}
use Rattle.journal.proofs.Digits.{hex_length}
use Rattle.journal.proofs.kinds.put_pairs.Goals as goal

pub loop-k-init : goal.loop-k-init
loop-k-init c = (sym (hex_length _), refl, refl)
