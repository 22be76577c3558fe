-- The rows of a standing coordinator: each is its initiator's own, its LUN has the form 00h, nn, its unit is one of the setup's, and all of them are in order initiator by initiator.
use Prim.Native.Nat.{ℕ, suc, ◌+◌, ◌<◌}
use mathlib.Core.Path.{◌≡◌, refl, ap, sym, ◌∙◌}
use mathlib.Core.Bool.{true, false}
use mathlib.Core.List.{List, [], ◌∷◌, map}
use mathlib.Core.Logic.{⊎_elim}
use native.Mathlib.Omega.{arith}
use lib.ListN.{length, length-take}
use lib.Dec.{ltb}
use borrow.Author.Tests.{ltb-true, le-ltb, ne_eqb}
use Rattle.lists.specs.Lists.{◌∈◌, here, there, all, gather, below}
use Rattle.lists.specs.Order.{sort}
use Rattle.lists.proofs.Tests.{and_true}
use Rattle.lists.proofs.Members.{in_cons, all_in, all_map, find_in}
use Rattle.lists.proofs.Sorting.{sort_blocks}
use Rattle.wire.specs.Lun.{lun_of, lun_form}
use Rattle.paper.specs.Contents.{Content, these, everything, Enrolment, not_enrolled, enrolled, pending, numbered, all_units, held}
use Rattle.paper.specs.Tables.{content_of, units_of, aces_of, tokens_of, enrolment_of, transport_of, transports_of}
use Rattle.paper.specs.Rows.{content_for, rows_at, transport_rows, enrolment_rows, token_for, has_number, proxy_rows, open_rows, rows_of}
use Rattle.paper.specs.Standing.{listed_in, lun_formed, luacd_formed, valid_id, setup_kept, unit_there}
use Rattle.paper.specs.Reports.{row_before, reach_rows}
use Rattle.paper.proofs.Stood.{Stood}
use Rattle.paper.proofs.Ruled.{ruled}
use Rattle.paper.proofs.SetupApart.{setup_apart}
use Rattle.paper.proofs.GroundRows.{content_by_lem, by_ground_lem, from_rows_at, from_proxies}
use Rattle.paper.proofs.Luns.{formed_small}
use Rattle.paper.specs.declared.state.Ground.{Ground}
use Rattle.paper.specs.declared.state.Ground.TheVariants.{GroundA, GroundO, GroundT, GroundW}
use Rattle.paper.specs.declared.state.IdType.{IdType}
use Rattle.paper.specs.declared.state.IdType.TheVariants.{AccessId, TransportId}
use Rattle.paper.specs.declared.state.Luacd.{Luacd}
use Rattle.paper.specs.declared.state.Row.{Row}
use Rattle.paper.specs.declared.state.Coordinator.{Coordinator}

-- a row of an initiator's own, with a LUN of the form, to a unit that is there
abbrev pub Own : Coordinator → ℕ → Row → Type 0
Own c i x = (x.initiator ≡ i) × (x.lun < 256) × (x.unit < c.units.count)

-- a place that is numbered is at one of the LUNs
from_numbered : {p : Luacd} (n : ℕ) (luns : List ℕ) → p ∈ numbered n luns → (p.unit < n + length luns) × (p.lun ∈ luns)
unfolding numbered
from_numbered n [] m = elim m [ ]
from_numbered {p} n (l ∷ ls) m =
    ⊎_elim
    (λ e. let u : p.unit ≡ n = ap (λ q. q.unit) e in (omega arith, here (ap (λ q. q.lun) e)))
    (λ k. let r = from_numbered (suc n) ls k in (omega (arith, r.0), there r.1))
    (in_cons m)

module _ (c : Coordinator) (s : Stood c) where
  -- ---- places that an identifier holds
  abbrev Placed : Luacd → Type 0
  Placed p = (p.lun < 256) × (p.unit < c.units.count)

  units_formed : all lun_formed (units_of c) ≡ true
  unfolding setup_kept
  units_formed =
      sym (all_map lun_of lun_form (units_of c)) ∙ (setup_apart (transports_of c) (map lun_of (units_of c)) s.setup).forms

  all_placed : {p : Luacd} → p ∈ all_units (units_of c) → Placed p
  all_placed {p} m =
      let (u, l) = from_numbered 0 (units_of c) m in
      (formed_small p.lun (all_in lun_formed units_formed l), omega (arith, u, length-take c.units.count c.units.luns))

  held_placed : {p : Luacd} (content : Content) → all luacd_formed (listed_in content) ≡ true → all (unit_there c) (listed_in content) ≡ true → p ∈ held (units_of c) content → Placed p
  held_placed {p} (these ls) f u m =
      (formed_small p.lun (all_in luacd_formed f m), ltb-true p.unit c.units.count (all_in (unit_there c) u m))
  held_placed everything f u m = all_placed m

  found_placed : {p : Luacd} (k : IdType) (id : List ℕ) → p ∈ held (units_of c) (content_for (aces_of c) k id) → Placed p
  found_placed {p} k id m =
      content_by_lem (λ x. p ∈ held (units_of c) x → Placed p) (aces_of c) k id
      (λ h. elim h [ ])
      (λ a n h.
      let r = (ruled c s).aces.each a n in
      held_placed (content_of a) (and_true (valid_id a.kind a.id) _ r.formed).1 r.placed h)
      m

  -- ---- the rows of each ground
  rows_at_lem : (i : ℕ) (g : Ground) (ps : List Luacd) → ((p : Luacd) → p ∈ ps → Placed p) → {x : Row} → x ∈ rows_at i g ps → Own c i x
  rows_at_lem i g ps f m = from_rows_at (Own c i) i g ps (λ p k. let q = f p k in (refl, q.0, q.1)) m

  found_own : (i : ℕ) (g : Ground) (k : IdType) (id : List ℕ) {x : Row} → x ∈ rows_at i g (held (units_of c) (content_for (aces_of c) k id)) → Own c i x
  found_own i g k id m = rows_at_lem i g (held (units_of c) (content_for (aces_of c) k id)) (λ p h. found_placed k id h) m

  transport_own : (i : ℕ) {x : Row} → x ∈ transport_rows c i → Own c i x
  unfolding transport_rows
  transport_own i m = found_own i GroundT TransportId (transport_of c i) m

  enrolment_own : (i : ℕ) (e : Enrolment) {x : Row} → x ∈ enrolment_rows c i e → Own c i x
  unfolding enrolment_rows
  enrolment_own i not_enrolled m = elim m [ ]
  enrolment_own i (enrolled id) m = found_own i GroundA AccessId id m
  enrolment_own i (pending id) m = found_own i GroundW AccessId id m

  proxy_own : (i : ℕ) {x : Row} → x ∈ proxy_rows c i → Own c i x
  unfolding token_for
  proxy_own i m =
      let x = from_proxies c i m in
      let r = ruled c s in
      let t = r.tokens.each x.token (find_in (has_number x.proxy.token) (tokens_of c) x.live).0 in
      rw x.row (
        x.owner,
        formed_small x.proxy.lun (r.proxies.each x.proxy x.listed).formed,
        ltb-true x.token.unit c.units.count (and_true (ltb x.token.unit c.units.count) _ t.placed).0,
      )

  open_own : (i : ℕ) {x : Row} → x ∈ open_rows c i → Own c i x
  unfolding open_rows
  open_own i m = rows_at_lem i GroundO (all_units (units_of c)) (λ p h. all_placed h) m

  pub rows_own : {x : Row} (i : ℕ) → x ∈ rows_of c i → Own c i x
  rows_own i m =
      by_ground_lem c i (λ e k. transport_own i k) (λ e k. enrolment_own i (enrolment_of c i) k) (λ e k. proxy_own i k) (λ e k. open_own i k) m

  -- ---- all rows, initiator by initiator
  later_row : (x y : Row) → x.initiator < y.initiator → row_before y x ≡ false
  unfolding row_before
  later_row x y h =
      rw (le-ltb y.initiator x.initiator (omega arith), ne_eqb y.initiator x.initiator (λ e. omega arith))

  pub reach_rows_lem : reach_rows c ≡ gather (λ i. sort row_before (rows_of c i)) (below c.initiators.count)
  unfolding reach_rows
  reach_rows_lem =
      sort_blocks row_before (λ r. r.initiator) (rows_of c) (λ i x m. (rows_own i m).0) later_row 0 c.initiators.count
