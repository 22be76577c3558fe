-- The rules of a setup taken apart.
use Prim.Native.Nat.{ℕ, ◌≤◌}
use mathlib.Core.Path.{◌≡◌}
use mathlib.Core.List.{List}
use mathlib.Core.Bool.{true, false, not}
use lib.ListN.{length}
use lib.Dec.{eqb, leb}
use borrow.Author.Tests.{leb-true, not-true}
use Rattle.lists.specs.Lists.{all, pairs}
use Rattle.lists.specs.Bytes.{same_bytes}
use Rattle.lists.proofs.Tests.{and_true}
use Rattle.wire.specs.Lun.{lun_form}
use Rattle.paper.specs.Sizes.{max_initiators, max_units, id_size}
use Rattle.paper.specs.Identifiers.{valid_transport}
use Rattle.paper.specs.Setup.{setup_rules}

pub record SetupRuled (ids : List (List ℕ)) (luns : List ℕ) : Type 0 where
  pub few_ids : length ids ≤ 16
  pub few_luns : length luns ≤ 32
  pub forms : all lun_form luns ≡ true
  pub different : pairs eqb luns ≡ false

pub setup_apart : (ids : List (List ℕ)) (luns : List ℕ) → setup_rules ids luns ≡ true → SetupRuled ids luns
unfolding setup_rules
setup_apart ids luns h =
    let a = and_true (leb (length ids) max_initiators) _ h in
    let b = and_true (leb (length luns) max_units) _ a.1 in
    let d = and_true (all valid_transport ids) _ b.1 in
    let e = and_true (not (pairs (same_bytes id_size) ids)) _ d.1 in
    let f = and_true (all lun_form luns) _ e.1 in
    record { few_ids = leb-true _ _ a.0; few_luns = leb-true _ _ b.0; forms = f.0; different = not-true _ f.1 }
