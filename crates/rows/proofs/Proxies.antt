-- The rows that one more proxy LUN gives an initiator.
use Prim.Native.Nat.{ℕ, ◌+◌}
use mathlib.Core.Path.{◌≡◌, refl}
use mathlib.Core.Bool.{cond}
use mathlib.Core.List.{List, [], ◌∷◌}
use Rattle.std.specs.Prelude.{Some, None}
use borrow.Author.Tests.{eq-eqb, ne_eqb}
use Rattle.lists.specs.Lists.{keep, gather}
use Rattle.lists.proofs.Parts.{kept_next}
use Rattle.paper.specs.Rows.{token_for, owned_by, row_of_proxy}
use Rattle.paper.specs.declared.state.Ground.TheVariants.{GroundX}
use Rattle.paper.specs.declared.state.Token.{Token}
use Rattle.paper.specs.declared.state.ProxyLun.{ProxyLun}
use Rattle.paper.specs.declared.state.Row.{Row}
use Rattle.rows.specs.Append.{pushed_row, Joined}
use Rattle.rows.specs.Table.{Rows}
use Rattle.rows.proofs.Appending.{join_none, join_one, Appending, append_some}

-- one proxy LUN more in a loop that appends their rows: another's gives none, one of the initiator's own the row of its token, if that is live
module _ (i : ℕ) (ts : List Token) {rows : Rows} {target : List Row} {next : Rows} {k : ℕ} {l r : List ProxyLun} {p : ProxyLun} (s : Appending rows target (gather (row_of_proxy ts) (keep (owned_by i) l)) next k) (e : l ≡ p ∷ r) where
  abbrev After : Rows → Type 0
  After next' = Appending rows target (gather (row_of_proxy ts) (keep (owned_by i) r)) next' (k + 1)

  joined : {next' : Rows} → Joined 1 next (cond (owned_by i p) (row_of_proxy ts p) []) next' → After next'
  joined j = append_some s j (rw (e, kept_next))

  pub anothers : (p.initiator ≡ i → ⊥) → After next
  anothers h = joined (rw (ne_eqb _ _ h) (join_none 1 next))

  pub own_dead : p.initiator ≡ i → token_for ts p.token ≡ None → After next
  own_dead h d = joined (rw (eq-eqb _ _ h, d) (join_none 1 next))

  pub own_live : {t : Token} {x : Row} → p.initiator ≡ i → token_for ts p.token ≡ Some t → x ≡ record { initiator = p.initiator; lun = p.lun; unit = t.unit; ground = GroundX } → After (pushed_row next x)
  own_live h d f = joined (rw (eq-eqb _ _ h, d, f) (join_one refl))
