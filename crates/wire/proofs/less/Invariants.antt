-- The bytes passed agree, so the first that does not decides.
use Rattle.lists.specs.Bytes.{same_bytes}
use mathlib.Core.Bool.{true}
use mathlib.Core.Path.{◌≡◌}
use Rattle.wire.proofs.less.Given as goal

abbrev pub invariant-loop-i : goal.invariant-loop-i
invariant-loop-i l = same_bytes l.i l.a l.b ≡ true
