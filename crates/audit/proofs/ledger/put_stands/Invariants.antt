-- What is left of the rows is what is left to be written.
use mathlib.Core.Path.{◌≡◌}
use Rattle.std.specs.Slice.Iter.{chunks_exact_rest, chunks_exact_size}
use Rattle.audit.specs.Ledger.{deed_bytes, runs_of, stands_by}
use Rattle.audit.proofs.Writers.{Laying}
use Rattle.audit.proofs.ledger.put_stands.Given as goal

abbrev pub invariant-loop-row : goal.invariant-loop-row
invariant-loop-row l =
    (chunks_exact_size l.row-iterator ≡ 4)
    × Laying (stands_by l.unit (runs_of 14 l.standing) (deed_bytes l.deed)) (runs_of 4 l.rows) 14 l.limit 0 l.initial.next (runs_of 4 (chunks_exact_rest l.row-iterator)) l.at l.next
