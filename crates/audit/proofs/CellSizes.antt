-- What the cells of the table take, the spaces between them, and a line of it.
use Prim.Native.Nat.{ℕ, ◌+◌, ◌-◌, ◌≤◌}
use mathlib.Core.List.{List}
use mathlib.Core.Bool.{Bool, not, ◌&&◌}
use native.Mathlib.Omega.{arith}
use lib.ListN.{length, get_or, length-append, length-replicate}
use lib.Dec.{eqb, ltb}
use Rattle.lists.specs.Lists.{below}
use Rattle.lists.specs.Bytes.{be}
use Rattle.lists.proofs.Tests.{both}
use Rattle.lists.proofs.Parts.{length_count}
use Rattle.lists.proofs.Sums.{gather_most}
use Rattle.journal.specs.Texts.{decimal_text}
use Rattle.journal.proofs.Told.{decimal_most}
use Rattle.audit.specs.Cells.{ground_text, what_text, by_text, sender_text, deed_text, has_ended, from_line, to_line, ended_text, cell_text, head_text, line_cell, fill_text, filled_cell, row_text}
use Rattle.audit.specs.declared.cells.Asked.{Asked}

abbrev Most : ℕ → List ℕ → Type 0
Most n l = length l ≤ n

pub ground_most : (letter : ℕ) → length (ground_text letter) ≤ 19
unfolding ground_text
ground_most letter =
    both (Most 19) (eqb letter 0x54) (omega arith)
    (both (Most 19) (eqb letter 0x41) (omega arith)
    (both (Most 19) (eqb letter 0x57) (omega arith)
    (both (Most 19) (eqb letter 0x58) (omega arith) (omega arith))))

pub what_most : (what : ℕ) → length (what_text what) ≤ 23
unfolding what_text
what_most what =
    both (Most 23) (eqb what 0x00) (omega arith)
    (both (Most 23) (eqb what 0x01) (omega arith)
    (both (Most 23) (eqb what 0x02) (omega arith)
    (both (Most 23) (eqb what 0x03) (omega arith)
    (both (Most 23) (eqb what 0x07) (omega arith)
    (both (Most 23) (eqb what 0x08) (omega arith)
    (both (Most 23) (eqb what 0x09) (omega arith)
    (both (Most 23) (eqb what 0x0A) (omega arith)
    (both (Most 23) (eqb what 0xFE) (omega arith)
    (both (Most 23) (eqb what 0xFF) (omega arith) (omega arith))))))))))

pub sender_most : (what by own : ℕ) → length (sender_text what by own) ≤ 24
unfolding sender_text
sender_most what by own =
    both (Most 24) (ltb what 0xFE && not (eqb by own))
    (omega (arith, length-append by_text (decimal_text by), decimal_most by)) (omega arith)

pub deed_most : (e : List ℕ) (at : ℕ) → length (deed_text e at) ≤ 74
unfolding deed_text
deed_most e at =
    let what = get_or e at 0 in
    let by = get_or e (at + 1) 0 in
    let own = get_or e 0 0 in
    let line = be 8 e (at + 2) in
    simp length-append (omega (arith, what_most what, sender_most what by own, decimal_most line))

pub ended_most : (e : List ℕ) → length (ended_text e) ≤ 74
unfolding ended_text
ended_most e = both (Most 74) (has_ended e) (deed_most e 14) (omega arith)

pub cell_most : (a : Asked) (column : ℕ) (e : List ℕ) → length (cell_text a column e) ≤ 74
unfolding cell_text
cell_most a column e =
    both (Most 74) (eqb column 0) (omega (arith, decimal_most (get_or e 0 0)))
    (both (Most 74) (eqb column 1) (omega arith)
    (both (Most 74) (eqb column 2) (omega (arith, ground_most (get_or e 3 0)))
    (both (Most 74) (eqb column 3) (omega (arith, decimal_most (from_line a e)))
    (both (Most 74) (eqb column 4) (omega (arith, decimal_most (to_line a e)))
    (both (Most 74) (eqb column 5) (deed_most e 4) (ended_most e))))))

pub head_most : (column : ℕ) → length (head_text column) ≤ 9
unfolding head_text
head_most column =
    both (Most 9) (eqb column 0) (omega arith)
    (both (Most 9) (eqb column 1) (omega arith)
    (both (Most 9) (eqb column 2) (omega arith)
    (both (Most 9) (eqb column 3) (omega arith)
    (both (Most 9) (eqb column 4) (omega arith)
    (both (Most 9) (eqb column 5) (omega arith) (omega arith))))))

pub line_cell_most : (a : Asked) (e : List ℕ) (column : ℕ) → length (line_cell a e column) ≤ 74
unfolding line_cell
line_cell_most a e column =
    both (Most 74) (eqb (length e) 0) (omega (arith, head_most column)) (cell_most a column e)

pub fill_most : (tsv : Bool) (width size : ℕ) → width ≤ 255 → length (fill_text tsv width size) ≤ 257
unfolding fill_text
fill_most tsv width size h =
    both (Most 257) tsv (omega arith) (omega (arith, length-replicate {A = ℕ} (width + 2 - size) 0x20))

-- ---- a line of the table: six cells filled up to columns of at most 255, and the last
pub row_most : (a : Asked) (tsv : Bool) (widths e : List ℕ) → ((k : ℕ) → get_or widths k 0 ≤ 255) → length (row_text a tsv widths e) ≤ 2061
unfolding row_text
row_most a tsv widths e h =
    let cells =
    gather_most (filled_cell a tsv widths e) 331 (below 6) (λ k m. let text = line_cell a e k in let width = get_or widths k 0 in omega (arith, length-append text (fill_text tsv width (length text)), line_cell_most a e k, fill_most tsv width (length text) (h k))) in
    simp length-append (omega (arith, cells, length_count 0 6, line_cell_most a e 6))

-- what a caller's bounds rest on
pub ruleset sizes = (decimal_most, what_most, sender_most, head_most, line_cell_most, fill_most)
