-- What is left of the six widths is what is left to be written.
use Prim.Native.Nat.{ℕ}
use mathlib.Core.Path.{◌≡◌}
use mathlib.Core.List.{List, [], ◌∷◌}
use lib.ListN.{length}
use Rattle.lists.specs.Lists.{below}
use Rattle.audit.specs.Ledger.{runs_of}
use Rattle.audit.specs.Cells.{column_width}
use Rattle.audit.specs.declared.cells.Asked.{Asked}
use Rattle.audit.proofs.Writers.{Laid}
use Rattle.audit.proofs.table.put_widths.Given as goal

abbrev width_byte : Asked → List ℕ → List ℕ → ℕ → List ℕ
width_byte a ended standing column = column_width a (runs_of 24 ended) (runs_of 14 standing) column ∷ []

abbrev pub invariant-loop-k : goal.invariant-loop-k
invariant-loop-k l = (length l.text ≡ length l.initial.text) × Laid (width_byte l.audited.asked l.audited.ended.now l.audited.standing.now) (below 6) 1 l.limit 0 l.initial.widths l.k l.at l.widths
