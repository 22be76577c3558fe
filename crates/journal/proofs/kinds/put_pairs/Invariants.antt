-- The bytes stored are those that the pairs passed make.
use mathlib.Core.Path.{◌≡◌}
use lib.ListN.{length, take}
use Rattle.journal.specs.Kinds.{hex_bytes}
use Rattle.journal.proofs.kinds.put_pairs.Given as goal

abbrev pub invariant-loop-k : goal.invariant-loop-k
invariant-loop-k l = (l.n ≡ length (hex_bytes l.w)) × (length l.to ≡ length l.initial.to) × (take l.k l.to ≡ take l.k (hex_bytes l.w))
