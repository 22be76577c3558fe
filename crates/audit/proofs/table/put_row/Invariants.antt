-- What is left of the six columns is what is left to be written; then come the last cell and the end of the line.
use Prim.Native.Nat.{◌≤◌}
use Rattle.lists.specs.Lists.{below}
use Rattle.audit.specs.Cells.{filled_cell}
use Rattle.audit.proofs.Writers.{Laid}
use Rattle.audit.proofs.table.put_row.Given as goal

abbrev pub invariant-loop-k : goal.invariant-loop-k
invariant-loop-k l = (l.k ≤ 6) × Laid (filled_cell l.a l.tsv l.widths l.e) (below 6) 331 l.limit 0 l.initial.text l.k l.at l.text
