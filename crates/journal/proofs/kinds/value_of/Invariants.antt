-- The number that the digits passed make goes on with those that are left; a digit too many is not made up for.
use Prim.Native.Nat.{◌<◌}
use mathlib.Core.Path.{◌≡◌}
use lib.ListN.{drop}
use Rattle.journal.specs.Kinds.{decimal_from, decimal_of}
use Rattle.journal.proofs.kinds.value_of.Given as goal

abbrev pub invariant-loop-b : goal.invariant-loop-b
invariant-loop-b l = (decimal_of l.w ≡ decimal_from l.value (drop l.b-index l.w)) × (l.value < 18446744073709551616)
