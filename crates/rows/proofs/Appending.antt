-- A loop that appends rows to a table: what it has yet to append decides, and it has appended at most one row a turn.
use Prim.Native.Nat.{ℕ, ◌+◌, ◌≤◌, ◌<◌}
use mathlib.Core.Path.{◌≡◌, refl, ap, sym, ◌∙◌}
use mathlib.Core.List.{List, [], ◌∷◌, ◌++◌, append_assoc, append-nil}
use native.Mathlib.Omega.{arith}
use lib.ListN.{length, length-append}
use Rattle.lists.proofs.Tables.{pad_more}
use Rattle.paper.specs.declared.state.Row.{Row}
use Rattle.rows.specs.Table.{no_row, row_table}
use Rattle.rows.specs.Append.{pushed_row, appended, Joined}
use Rattle.rows.specs.Table.{Rows}

pub appended_append : (rows : Rows) (xs ys : List Row) → appended rows (xs ++ ys) ≡ appended (appended rows xs) ys
unfolding appended
appended_append rows [] ys = refl
appended_append rows (x ∷ xs) ys = appended_append (pushed_row rows x) xs ys

pub appended_count : (rows : Rows) (xs : List Row) → (appended rows xs).count ≡ rows.count + length xs
unfolding appended
appended_count rows [] = omega arith
appended_count rows (x ∷ xs) = omega (arith, appended_count (pushed_row rows x) xs)

pub join_none : (most : ℕ) (rows : Rows) → Joined most rows [] rows
unfolding appended
join_none most rows = record { is = refl; few = omega arith }

pub join_one : {rows next : Rows} {x : Row} → next ≡ pushed_row rows x → Joined 1 rows (x ∷ []) next
unfolding appended
join_one e = record { is = e; few = omega (arith, ap (λ r. r.count) e) }

pub join_both : {m n : ℕ} {rows mid next : Rows} {xs ys : List Row} → Joined m rows xs mid → Joined n mid ys next → Joined (m + n) rows (xs ++ ys) next
join_both {rows = rows} {xs = xs} {ys} j k =
    record { is = k.is ∙ rw (appended_append rows xs ys, j.is); few = omega (arith, j.few, k.few) }

pub record Appending (rows : Rows) (target rest : List Row) (next : Rows) (k : ℕ) : Type 0 where
  pub left : appended rows target ≡ appended next rest
  pub few : next.count ≤ rows.count + k

pub append_none : (rows : Rows) (xs : List Row) → Appending rows xs xs rows 0
append_none rows xs = record { left = refl; few = omega arith }

module _ {rows : Rows} {target rest : List Row} {next : Rows} {k : ℕ} (s : Appending rows target rest next k) where
  pub append_some : {xs rest' : List Row} {next' : Rows} → Joined 1 next xs next' → rest ≡ xs ++ rest' → Appending rows target rest' next' (k + 1)
  append_some {xs} {rest'} j e =
      record { left = s.left ∙ rw (e, appended_append next xs rest', j.is); few = omega (arith, s.few, j.few) }

  pub append_row : {x : Row} {rest' : List Row} {next' : Rows} → next' ≡ pushed_row next x → rest ≡ x ∷ rest' → Appending rows target rest' next' (k + 1)
  append_row f e = append_some (join_one f) e

  pub append_end : rest ≡ [] → k ≤ 32 → Joined 32 rows target next
  unfolding appended
  append_end e h = record { is = sym (s.left ∙ rw e); few = omega (arith, s.few) }

-- rows appended one after the other make the padded table
pushed_table : (xs : List Row) (x : Row) → length xs < 96 → pushed_row (row_table xs) x ≡ row_table (xs ++ (x ∷ []))
pushed_table xs x h =
    let e : length (xs ++ (x ∷ [])) ≡ length xs + 1 = simp length-append in rw (pad_more no_row 96 xs x h, e)

pub appended_table : (xs ys : List Row) → length (xs ++ ys) ≤ 96 → appended (row_table xs) ys ≡ row_table (xs ++ ys)
unfolding appended
appended_table xs [] h = rw append-nil
appended_table xs (y ∷ ys) h =
    let e : (xs ++ (y ∷ [])) ++ ys ≡ xs ++ (y ∷ ys) = simp append_assoc in
    let f : length xs < 96 = omega (arith, simp length-append at h) in
    rw (pushed_table xs y f, ← e) (appended_table (xs ++ (y ∷ [])) ys (rw e h))

-- at most 96 rows appended to no rows are the table of those rows
pub joined_table : {m : ℕ} {rows next : Rows} {xs : List Row} → rows ≡ row_table [] → Joined m rows xs next → m ≤ 96 → next ≡ row_table xs
joined_table {m} {rows} {next} {xs} e j h =
    let f : next ≡ appended (row_table []) xs = j.is ∙ rw e in
    let n : next.count ≡ length xs = ap (λ r. r.count) f ∙ (appended_count (row_table []) xs ∙ omega arith) in
    f ∙ appended_table [] xs (omega (arith, j.few, ap (λ r. r.count) e))
