-- What is left of the grounds is what is left to be written.
use mathlib.Core.Path.{◌≡◌}
use Rattle.std.specs.Slice.Iter.{chunks_exact_rest, chunks_exact_size}
use Rattle.audit.specs.Ledger.{deed_bytes, runs_of, ends_by}
use Rattle.audit.proofs.Writers.{Laying}
use Rattle.audit.proofs.ledger.put_ends.Given as goal

abbrev pub invariant-loop-e : goal.invariant-loop-e
invariant-loop-e l =
    (chunks_exact_size l.e-iterator ≡ 14)
    × Laying (ends_by (runs_of 4 l.rows) (deed_bytes l.deed) l.to) (runs_of 14 l.standing) 24 l.limit l.used l.initial.ended (runs_of 14 (chunks_exact_rest l.e-iterator)) l.at l.ended
