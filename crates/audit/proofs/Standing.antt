-- What the audit counts as standing after a line are the rows of the unit in the reach list of the coordinator after that line, in their order.
use Prim.Native.Nat.{ℕ, ◌+◌, ◌*◌}
use mathlib.Core.Path.{◌≡◌, refl, ap, sym, ◌∙◌}
use mathlib.Core.List.{List, [], ◌∷◌, ◌++◌, map, append_assoc}
use Rattle.std.specs.Prelude.{Option, Some, None}
use mathlib.Core.Bool.{true, cond}
use native.Mathlib.Omega.{arith}
use lib.ListN.{length, take, drop, length-append}
use lib.Seq.{take_all, take_at, drop_at}
use lib.Dec.{eqb}
use borrow.Author.Tests.{le-ltb}
use Rattle.lists.specs.Bytes.{be_bytes}
use Rattle.lists.specs.Lists.{◌∈◌, find, keep, gather}
use Rattle.lists.proofs.Bytes.{bytes_length, same_take}
use Rattle.lists.proofs.Members.{find_in, from_keep, keep_map, map_map, map_same}
use Rattle.lists.proofs.Parts.{kept_none, kept_next}
use Rattle.paper.specs.Outcomes.{decide_reach}
use Rattle.paper.specs.Reports.{reach_rows, row_bytes, reach_bytes}
use Rattle.paper.specs.Standing.{standing}
use Rattle.paper.specs.declared.state.Coordinator.{Coordinator}
use Rattle.paper.proofs.Lengths.{largest_reach}
use Rattle.paper.proofs.Stood.{stood, counted}
use Rattle.audit.specs.Ledger.{runs_of, same_row, of_unit, or_begun, held_over, stands_by, stands_after, rows_after}
use Rattle.audit.proofs.Grounds.{held_size}
use Rattle.audit.proofs.Runs.{run_size, runs_laid}

-- ---- what stood before and what begins have the row that they are of
held_row : (before deed row : List ℕ) → length row ≡ 4 → take 4 (held_over (runs_of 14 before) deed row) ≡ row
unfolding held_over
held_row before deed row h = go (find (same_row row) (runs_of 14 before)) refl
  where
    go : (o : Option (List ℕ)) → find (same_row row) (runs_of 14 before) ≡ o → take 4 (or_begun (row ++ deed) o) ≡ row
    go None q = take_at row deed 4 h
    go (Some e) q =
        let f = find_in (same_row row) (runs_of 14 before) q in
        same_take e row 4 (omega (arith, run_size 14 before f.0)) (omega arith) f.1 ∙ take_all 4 row (omega arith)

-- ---- only rows of the unit give something
of_unit_lem : (unit : ℕ) (runs : List (List ℕ)) (deed : List ℕ) (rows : List (List ℕ)) → gather (stands_by unit runs deed) rows ≡ gather (held_over runs deed) (keep (of_unit unit) rows)
unfolding stands_by
of_unit_lem unit runs deed [] = sym (kept_none (held_over runs deed) (of_unit unit))
of_unit_lem unit runs deed (row ∷ rows) =
    rw (of_unit_lem unit runs deed rows) (sym (kept_next (held_over runs deed) (of_unit unit) row rows))

-- "It stands after a line if the reach list of the coordinator after that line has it."
pub stands_are_rows : (unit : ℕ) (before rows deed : List ℕ) → length deed ≡ 10 → map (take 4) (runs_of 14 (stands_after unit before rows deed)) ≡ keep (of_unit unit) (runs_of 4 rows)
unfolding stands_after
stands_are_rows unit before rows deed d =
    let kept = keep (of_unit unit) (runs_of 4 rows) in
    let held = held_over (runs_of 14 before) deed in
    let sized : (row : List ℕ) → row ∈ kept → length row ≡ 4 = λ row m. run_size 4 rows (from_keep (of_unit unit) (runs_of 4 rows) m).0 in
    ap (λ l. map (take 4) (runs_of 14 l)) (of_unit_lem unit (runs_of 14 before) deed (runs_of 4 rows))
    ∙ (ap (map (take 4)) (runs_laid held 14 kept (omega arith) (λ row m. held_size before deed row d (sized row m)))
    ∙ (map_map held (take 4) (λ row. row) kept (λ row m. held_row before deed row (sized row m)) ∙ map_same (λ row. row) kept (λ row m. refl)))

-- ---- the rows of the reach list, behind its header
behind_header : (c : Coordinator) → drop 8 (reach_bytes c) ≡ gather row_bytes (reach_rows c)
unfolding reach_bytes
behind_header c =
    let n = length (reach_rows c) in
    let size = be_bytes 4 (4 + 4 * n) in
    let rest : List ℕ = 0x01 ∷ (cond c.enabled 0x01 0x00 ∷ be_bytes 2 n) in
    let rows = gather row_bytes (reach_rows c) in
    ap (drop 8) (sym (append_assoc size rest rows)) ∙ drop_at (size ++ rest) rows 8 (simp (length-append, bytes_length))

pub rows_are_reach : (c : Coordinator) → standing c ≡ true → rows_after c ≡ gather row_bytes (reach_rows c)
unfolding rows_after decide_reach
rows_are_reach c h =
    let small = largest_reach c (counted c (stood c h).counts) in
    rw (h, le-ltb 65536 (length (reach_bytes c)) (omega arith)) (behind_header c)

-- so what stands of a unit after a line are its rows of the coordinator's reach list
pub stands_are_reach : (c : Coordinator) → standing c ≡ true → (unit : ℕ) (before deed : List ℕ) → length deed ≡ 10 → map (take 4) (runs_of 14 (stands_after unit before (rows_after c) deed)) ≡ map row_bytes (keep (λ r. eqb r.unit unit) (reach_rows c))
unfolding row_bytes
stands_are_reach c h unit before deed d =
    stands_are_rows unit before (rows_after c) deed d
    ∙ (ap (λ l. keep (of_unit unit) (runs_of 4 l)) (rows_are_reach c h)
    ∙ (ap (keep (of_unit unit)) (runs_laid row_bytes 4 (reach_rows c) (omega arith) (λ r m. refl)) ∙ keep_map row_bytes (of_unit unit) (reach_rows c)))
