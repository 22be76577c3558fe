-- A coordinator that is off, with every table empty, stands if its setup does: so does a fresh one, and one after DISABLE ACCESS CONTROLS.
use Prim.Native.Nat.{ℕ, suc, ◌≤◌}
use mathlib.Core.Path.{◌≡◌, refl, ap, sym, ◌∙◌}
use mathlib.Core.List.{List, [], ◌∷◌, map}
use mathlib.Core.Bool.{true, false}
use native.Mathlib.Omega.{arith}
use lib.ListN.{length-map}
use lib.Dec.{eqb}
use Rattle.lists.specs.Lists.{any, pairs}
use Rattle.lists.proofs.Tests.{or_false}
use Rattle.lists.proofs.Members.{place_in}
use Rattle.wire.specs.Lun.{lun_of}
use Rattle.paper.specs.Setup.{ids_in, luns_in, setup_in, accepted}
use Rattle.paper.specs.Contents.{numbered, not_enrolled}
use Rattle.paper.specs.Tables.{aces_of, transports_of, units_of, acl_of, token_table, proxy_table, enrolment_table, coordinator_of}
use Rattle.paper.specs.Rows.{row_at, rows_at, open_rows, rows_of, clashing, clash_for}
use Rattle.paper.specs.Standing.{setup_kept, generation_right, empty_while_off, standing}
use Rattle.paper.specs.Fresh.{fresh}
use Rattle.paper.specs.Effects.{turned_off, switched}
use Rattle.paper.specs.Applied.{applied}
use Rattle.paper.proofs.Getters.{fresh_units, fresh_transports}
use Rattle.paper.proofs.Stood.{stood, counted}
use Rattle.paper.proofs.Ruled.{Ruled, refers_to, stands_by}
use Rattle.paper.proofs.EnrolmentsAfter.{nobody}
use Rattle.paper.proofs.FewerRows.{none_clash}
use Rattle.paper.proofs.Counts.{within}
use Rattle.paper.proofs.SetupApart.{setup_apart}
use Rattle.paper.proofs.SetupBytes.{accepted_so, ids_kept}
use Rattle.paper.proofs.Luns.{same_lun, luns_whole}
use Rattle.paper.specs.declared.state.Ground.TheVariants.{GroundO}
use Rattle.paper.specs.declared.state.Units.{Units}
use Rattle.paper.specs.declared.state.Coordinator.{Coordinator}

-- ---- O rows do not clash: the default LUNs are all different
clear_of_o : (i l u n : ℕ) (luns : List ℕ) → any (eqb (lun_of l)) (map lun_of luns) ≡ false → any (clashing (row_at i GroundO (record { lun = l; unit = u }))) (rows_at i GroundO (numbered n luns)) ≡ false
unfolding numbered clashing
clear_of_o i l u n [] h = refl
clear_of_o i l u n (x ∷ luns) h =
    let r = or_false (eqb (lun_of l) (lun_of x)) _ h in
    rw (sym (same_lun l x) ∙ r.0) (clear_of_o i l u (suc n) luns r.1)

clear_open : (i n : ℕ) (luns : List ℕ) → pairs eqb (map lun_of luns) ≡ false → pairs clashing (rows_at i GroundO (numbered n luns)) ≡ false
unfolding pairs numbered
clear_open i n [] h = refl
clear_open i n (l ∷ luns) h =
    let r = or_false (any (eqb (lun_of l)) (map lun_of luns)) _ h in
    rw (clear_of_o i l n (suc n) luns r.0) (clear_open i (suc n) luns r.1)

-- ---- off and empty
abbrev empty : ℕ → List ℕ → Units → Coordinator
empty n ids units =
    coordinator_of false 0 0 (record { count = n; ids = ids; enrolments = enrolment_table [] }) units (acl_of []) (token_table []) (proxy_table [])

module _ (n : ℕ) (ids : List ℕ) (units : Units) (kept-rules : setup_kept (empty n ids units) ≡ true) where
  abbrev off : Coordinator
  off = empty n ids units

  empty_ruled : Ruled off
  unfolding generation_right pairs
  empty_ruled =
      record {
        setup = kept-rules;
        generation = refl;
        aces = record { once = refl; each = λ a m. elim m [ ] };
        tokens = record { once = refl; each = λ t m. elim m [ ] };
        proxies = record { once = refl; each = λ p m. elim m [ ] };
        enrolments = λ x m. let (i, h, e) = place_in not_enrolled m in ap (refers_to (aces_of off)) (sym e ∙ nobody n i);
      }

  empty_clear : (i : ℕ) → clash_for off i ≡ false
  unfolding rows_of open_rows setup_kept
  empty_clear i = clear_open i 0 (units_of off) (setup_apart (transports_of off) (map lun_of (units_of off)) kept-rules).different

  empty_stands : n ≤ 16 → units.count ≤ 32 → standing off ≡ true
  unfolding empty_while_off
  empty_stands few many =
      stands_by off empty_ruled
      (within off (record { few_initiators = few; few_units = many; few_aces = omega arith; luacds_few = refl; few_tokens = omega arith; few_proxies = omega arith }))
      (none_clash off (λ i k. empty_clear i))
      refl

-- ---- DISABLE ACCESS CONTROLS
module _ (c : Coordinator) where
  pub disable_stands : standing c ≡ true → standing (applied c (switched turned_off)) ≡ true
  unfolding applied setup_kept
  disable_stands h =
      let s = stood c h in
      let k = counted c s.counts in
      empty_stands c.initiators.count c.initiators.ids c.units s.setup k.few_initiators k.few_units

-- ---- a fresh coordinator keeps its setup as it was listed
pub fresh_stands : (ids luns : List ℕ) → accepted ids luns ≡ true → standing (fresh (setup_in ids luns)) ≡ true
unfolding fresh setup_kept
fresh_stands ids luns h =
    let w = setup_in ids luns in
    let a = accepted_so ids luns h in
    let r = setup_apart (ids_in ids) (luns_in luns) a.rules in
    let rules : setup_kept (fresh w) ≡ true = rw (fresh_transports w, ids_kept ids a.whole_ids, fresh_units w, luns_whole (luns_in luns) r.forms) a.rules in
    empty_stands (fresh w).initiators.count (fresh w).initiators.ids (fresh w).units rules r.few_ids (simp length-map r.few_luns)
