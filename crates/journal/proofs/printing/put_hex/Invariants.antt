-- What is left of the source is what is left to be written.
use Prim.Native.Nat.{◌+◌, ◌*◌}
use mathlib.Core.Path.{◌≡◌}
use lib.ListN.{length, drop}
use Rattle.wire.specs.Write.{writes}
use Rattle.wire.proofs.Writing.{Left}
use Rattle.journal.specs.Texts.{hex_text}
use Rattle.journal.proofs.printing.put_hex.Given as goal

abbrev pub invariant-loop-b : goal.invariant-loop-b
invariant-loop-b l =
    (l.to ≡ l.at + 2 * l.b-index)
    × (length l.buf ≡ length l.initial.buf)
    × Left l.limit l.to (hex_text (drop l.b-index l.src)) l.buf (l.at + length (hex_text l.src)) (writes l.limit l.at (hex_text l.src) l.initial.buf)
