-- The runs that are left decide how wide the column is.
use mathlib.Core.Path.{◌≡◌}
use lib.ListN.{length}
use Rattle.std.specs.Slice.Iter.{chunks_exact_rest, chunks_exact_size}
use Rattle.audit.specs.Ledger.{runs_of}
use Rattle.audit.specs.Cells.{widest}
use Rattle.audit.proofs.table.widen.Given as goal

abbrev pub invariant-loop-e : goal.invariant-loop-e
invariant-loop-e l =
    (length l.text ≡ length l.initial.text)
    × (chunks_exact_size l.e-iterator ≡ l.size)
    × (widest l.a l.column (runs_of l.size l.runs) l.width ≡ widest l.a l.column (runs_of l.size (chunks_exact_rest l.e-iterator)) l.wide)
