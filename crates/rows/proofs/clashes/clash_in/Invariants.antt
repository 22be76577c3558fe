-- Each row is sought among the later ones for one that it clashes with; the pairs of the rows that are left decide.
use Rattle.std.proofs.Common.{◌≡◌, false, drop, get_or}
use Rattle.lists.specs.Lists.{any, pairs}
use Rattle.paper.specs.Rows.{clashing}
use Rattle.rows.specs.Table.{no_row}
use Rattle.rows.proofs.clashes.clash_in.Given as goal

abbrev pub invariant-loop-b : goal.invariant-loop-b
invariant-loop-b l =
    let p = clashing (get_or l.rows l.i no_row) in
    (any p l.later ≡ any p (drop l.b-index l.later)) × (l.found ≡ false)

abbrev pub invariant-search : goal.invariant-search
invariant-search l = (pairs clashing l.rows ≡ pairs clashing (drop l.i l.rows)) × (l.found ≡ false)
