-- The columns of a line: a cell and what fills it up, and how wide a column is.
use Prim.Native.Nat.{ℕ}
use mathlib.Core.Path.{◌≡◌, ◌∙◌}
use mathlib.Core.List.{List, [], ◌∷◌}
use mathlib.Core.Bool.{Bool}
use lib.ListN.{length}
use Rattle.wire.specs.Write.{Wrote}
use Rattle.wire.proofs.Writing.{then}
use Rattle.audit.specs.Cells.{head_text, fill_text, filled, widened, widest, column_width}
use Rattle.audit.specs.declared.cells.Asked.{Asked}

pub cell_filled : (tsv : Bool) {limit at m e width size w : ℕ} {text b₀ b₁ b₂ : List ℕ} → Wrote limit at text b₀ m b₁ → Wrote limit m (fill_text tsv width size) b₁ e b₂ → size ≡ length text → width ≡ w → Wrote limit at (filled tsv w text) b₀ e b₂
cell_filled tsv v w p q = rw (p, q) at (then v w)

-- ---- the widest cell of the grounds that are left
module _ (a : Asked) (column width : ℕ) {es : List (List ℕ)} where
  pub widest_next : {e : List ℕ} {rest : List (List ℕ)} {wide : ℕ} → es ≡ e ∷ rest → wide ≡ widened a column e width → widest a column es width ≡ widest a column rest wide
  unfolding widest
  widest_next p q = rw (p, q)

  pub widest_end : es ≡ [] → widest a column es width ≡ width
  unfolding widest
  widest_end p = rw p

-- the heading, then the grounds that ended, then those that stand
pub column_width_lem : (a : Asked) (column : ℕ) (ended standing : List (List ℕ)) {head first wide : ℕ} → head ≡ length (head_text column) → first ≡ widest a column ended head → wide ≡ widest a column standing first → wide ≡ column_width a ended standing column
column_width_lem a column ended standing p q r = r ∙ rw (q, p)
