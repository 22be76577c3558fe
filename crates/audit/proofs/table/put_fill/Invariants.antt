-- What is left of the spaces is what is left to be written.
use Prim.Native.Nat.{ℕ, ◌≤◌, ◌-◌, ◌+◌}
use mathlib.Core.Path.{◌≡◌}
use mathlib.Core.Bool.{false}
use mathlib.Core.List.{List}
use lib.ListN.{length, replicate}
use Rattle.wire.specs.Write.{writes}
use Rattle.wire.proofs.Writing.{Left}
use Rattle.audit.proofs.table.put_fill.Given as goal

abbrev blanks : ℕ → List ℕ
blanks n = replicate n 0x20

abbrev pub invariant-loop-k : goal.invariant-loop-k
invariant-loop-k l =
    (l.tsv ≡ false)
    × (l.end ≡ l.width + 2)
    × (l.end ≤ 257)
    × (l.to + l.size ≡ l.at + l.k)
    × (length l.text ≡ length l.initial.text)
    × Left l.limit l.to (blanks (l.end - l.k)) l.text (l.at + length (blanks (l.end - l.size))) (writes l.limit l.at (blanks (l.end - l.size)) l.initial.text)
