-- Where the tables say what the history says, the rows of an initiator are what stands for it.
use Prim.Native.Nat.{ℕ, ◌<◌}
use mathlib.Core.Path.{◌≡◌, refl, ap, sym, ◌∙◌, subst}
use mathlib.Core.Bool.{true, false}
use mathlib.Core.List.{◌++◌}
use Rattle.std.specs.Prelude.{Option, Some, None}
use native.Mathlib.Omega.{arith}
use lib.ListN.{length}
use lib.Dec.{eqb}
use borrow.Author.Tests.{eqb-true, eq-eqb}
use Rattle.lists.specs.Lists.{◌∈◌, find}
use Rattle.lists.proofs.Tests.{and_true, none_not_some}
use Rattle.lists.proofs.Members.{in_left, in_right, in_map, find_in, find_once}
use Rattle.wire.specs.Lun.{lun_of}
use Rattle.paper.specs.Setup.{Setup}
use Rattle.paper.specs.Contents.{Enrolment, not_enrolled, enrolled, pending, all_units, held}
use Rattle.paper.specs.Tables.{units_of, transport_of, enrolment_of, aces_of, tokens_of, proxies_of}
use Rattle.paper.specs.Rows.{content_for, row_at, transport_rows, enrolment_rows, token_for, proxy_rows, open_rows, rows_of}
use Rattle.paper.specs.Applied.{is_proxy}
use Rattle.paper.specs.Readings.{History, is_on, enrolment, given_to, enrolled_under, pending_under, given_by_t, proxy_token, Gives, On, Stands}
use Rattle.paper.proofs.Getters.{length_transports}
use Rattle.paper.proofs.Stood.{stood}
use Rattle.paper.proofs.Invariant.{token_behind, Agrees, Sound, Holds}
use Rattle.paper.proofs.Luns.{same_lun}
use Rattle.paper.proofs.Given.{holds_given, transport_given}
use Rattle.paper.proofs.GroundRows.{rows_on, rows_off, by_ground_lem, from_rows_at, from_proxies, in_proxies}
use Rattle.paper.proofs.OwnRows.{rows_own}
use Rattle.paper.specs.declared.state.Ground.{Ground}
use Rattle.paper.specs.declared.state.Ground.TheVariants.{GroundA, GroundO, GroundT, GroundW, GroundX}
use Rattle.paper.specs.declared.state.IdType.TheVariants.{AccessId, TransportId}
use Rattle.paper.specs.declared.state.Luacd.{Luacd}
use Rattle.paper.specs.declared.state.Token.{Token}
use Rattle.paper.specs.declared.state.ProxyLun.{ProxyLun}
use Rattle.paper.specs.declared.state.Row.{Row}
use Rattle.paper.specs.declared.state.Coordinator.{Coordinator}

abbrev pub place : ℕ → ℕ → Luacd
place l u = record { lun = l; unit = u }

module _ (w : Setup) (h : History) (c : Coordinator) (a : Agrees w h c) (o : Sound c) where
  -- ---- from a row to its ground
  on_t : (i : ℕ) {r : Row} → i < c.initiators.count → is_on h ≡ true → r ∈ transport_rows c i → On w h r.ground i r.lun r.unit
  unfolding transport_rows
  on_t i l on m =
      from_rows_at (λ r. On w h r.ground i r.lun r.unit) i GroundT (held (units_of c) (content_for (aces_of c) TransportId (transport_of c i)))
      (λ p k. (on, subst (λ ps. p ∈ ps) (transport_given w h c a i l) k)) m

  from_enrolment : (i : ℕ) {r : Row} (e : Enrolment) → is_on h ≡ true → enrolment h i ≡ e → r ∈ enrolment_rows c i e → On w h r.ground i r.lun r.unit
  unfolding enrolment_rows
  from_enrolment i not_enrolled on q k = elim k [ ]
  from_enrolment i (enrolled id) on q k =
      from_rows_at (λ r. On w h r.ground i r.lun r.unit) i GroundA (held (units_of c) (content_for (aces_of c) AccessId id))
      (λ p m. (on, rw q (subst (λ ps. p ∈ ps) (holds_given w h c a AccessId id) m))) k
  from_enrolment i (pending id) on q k =
      from_rows_at (λ r. On w h r.ground i r.lun r.unit) i GroundW (held (units_of c) (content_for (aces_of c) AccessId id))
      (λ p m. (on, rw q (subst (λ ps. p ∈ ps) (holds_given w h c a AccessId id) m))) k

  on_enrolment : (i : ℕ) {r : Row} → is_on h ≡ true → r ∈ enrolment_rows c i (enrolment_of c i) → On w h r.ground i r.lun r.unit
  on_enrolment i on m = from_enrolment i (enrolment h i) on refl (rw (a.enrolments i) at m)

  -- the token of a proxy LUN in the table is the one behind it
  proxy_behind : (i : ℕ) {p : ProxyLun} {t : Token} → p ∈ proxies_of c → p.initiator ≡ i → token_for (tokens_of c) p.token ≡ Some t → proxy_token w h i (lun_of p.lun) ≡ Some t
  proxy_behind i {p} {t} m own e =
      let passes : is_proxy i (lun_of p.lun) p ≡ true = rw (eq-eqb p.initiator i own, eq-eqb (lun_of p.lun) (lun_of p.lun) refl) in
      let found : find (is_proxy i (lun_of p.lun)) (proxies_of c) ≡ Some p = find_once (is_proxy i (lun_of p.lun)) (o.proxies i (lun_of p.lun)) m passes in
      sym (a.proxies i (lun_of p.lun)) ∙ rw found e

  on_x_lem : (i : ℕ) {r : Row} → is_on h ≡ true → r ∈ proxy_rows c i → On w h r.ground i r.lun r.unit
  on_x_lem i on m =
      let x = from_proxies c i m in rw x.row (on, x.token, proxy_behind i x.listed x.owner x.live, refl)

  -- ---- from a ground to its row
  T_row : (i l u : ℕ) → i < c.initiators.count → Gives (given_by_t w h i) l u → row_at i GroundT (place l u) ∈ transport_rows c i
  unfolding transport_rows
  T_row i l u n k = in_map (row_at i GroundT) (subst (λ ps. place l u ∈ ps) (sym (transport_given w h c a i n)) k)

  enrolment_row : (i l u : ℕ) (e : Enrolment) → (Gives (given_to w h AccessId (enrolled_under e)) l u → row_at i GroundA (place l u) ∈ enrolment_rows c i e) × (Gives (given_to w h AccessId (pending_under e)) l u → row_at i GroundW (place l u) ∈ enrolment_rows c i e)
  unfolding enrolment_rows
  enrolment_row i l u not_enrolled = (λ k. elim k [ ], λ k. elim k [ ])
  enrolment_row i l u (enrolled id) = (λ k. in_map (row_at i GroundA) (subst (λ ps. place l u ∈ ps) (sym (holds_given w h c a AccessId id)) k), λ k. elim k [ ])
  enrolment_row i l u (pending id) = (λ k. elim k [ ], λ k. in_map (row_at i GroundW) (subst (λ ps. place l u ∈ ps) (sym (holds_given w h c a AccessId id)) k))

  X_row : (i l u : ℕ) → (t : Token) → proxy_token w h i (lun_of l) ≡ Some t → t.unit ≡ u → row_at i GroundX (place l u) ∈ proxy_rows c i
  X_row i l u t e q = by (find (is_proxy i (lun_of l)) (proxies_of c)) refl (a.proxies i (lun_of l) ∙ e)
    where
      by : (p : Option ProxyLun) → find (is_proxy i (lun_of l)) (proxies_of c) ≡ p → token_behind (tokens_of c) p ≡ Some t → row_at i GroundX (place l u) ∈ proxy_rows c i
      by None f g = absurd (none_not_some g)
      by (Some p) f g =
          let (m, passes) = find_in (is_proxy i (lun_of l)) (proxies_of c) f in
          let (own, at) = and_true (eqb p.initiator i) (eqb (lun_of p.lun) (lun_of l)) passes in
          let same : p.lun ≡ l = eqb-true p.lun l (sym (same_lun p.lun l) ∙ at) in
          let owner = eqb-true p.initiator i own in
          rw (owner, same, q) at (in_proxies c m g)

-- ---- the rows of an initiator are what stands for it
module _ (w : Setup) (h : History) (c : Coordinator) (holds : Holds w h c) where
  a : Agrees w h c
  a = holds.agrees

  pub initiators : c.initiators.count ≡ length w.transports
  unfolding a
  initiators = sym (length_transports c) ∙ ap length a.transports

  sized : c.units.count ≡ length (units_of c)
  unfolding a
  sized = ap (λ t. t.count) holds.table ∙ ap length (sym a.units)

  ground_of : (i : ℕ) {r : Row} → i < c.initiators.count → r ∈ rows_of c i → On w h r.ground i r.lun r.unit
  unfolding a open_rows
  ground_of i l m =
      by_ground_lem c i
      (λ e k. on_t w h c a holds.sound i l (sym a.on ∙ e) k)
      (λ e k. on_enrolment w h c a holds.sound i (sym a.on ∙ e) k)
      (λ e k. on_x_lem w h c a holds.sound i (sym a.on ∙ e) k)
      (λ e k.
      from_rows_at (λ q. On w h q.ground i q.lun q.unit) i GroundO (all_units (units_of c))
      (λ p n. (sym a.on ∙ e, subst (λ luns. p ∈ all_units luns) a.units n)) k)
      m

  pub row_stands : (i : ℕ) {r : Row} → i < c.initiators.count → r ∈ rows_of c i → Stands w h r
  unfolding a
  row_stands i {r} l m =
      let s = stood c holds.stands in
      let own = rows_own c s i m in
      record {
        initiator = omega (arith, own.0, initiators);
        lun = own.1;
        unit = omega (arith, own.2, sized, ap length a.units);
        ground = subst (λ j. On w h r.ground j r.lun r.unit) (sym own.0) (ground_of i l m);
      }

  on_row : (i : ℕ) {r : Row} → is_on h ≡ true → r ∈ (transport_rows c i ++ (enrolment_rows c i (enrolment_of c i) ++ proxy_rows c i)) → r ∈ rows_of c i
  unfolding a
  on_row i {r} on m = subst (λ rs. r ∈ rs) (sym (rows_on c i (a.on ∙ on))) m

  off_row : (i : ℕ) {r : Row} → is_on h ≡ false → r ∈ open_rows c i → r ∈ rows_of c i
  unfolding a
  off_row i {r} off m = subst (λ rs. r ∈ rs) (sym (rows_off c i (a.on ∙ off))) m

  enrolled_row : (i : ℕ) {r : Row} → r ∈ enrolment_rows c i (enrolment h i) → r ∈ (enrolment_rows c i (enrolment_of c i) ++ proxy_rows c i)
  unfolding a
  enrolled_row i {r} m =
      in_left (proxy_rows c i) (subst (λ e. r ∈ enrolment_rows c i e) (sym (a.enrolments i)) m)

  pub row_of : (g : Ground) (i l u : ℕ) → i < length w.transports → On w h g i l u → row_at i g (place l u) ∈ rows_of c i
  unfolding a open_rows
  row_of GroundT i l u n (on, k) =
      on_row i on (in_left (enrolment_rows c i (enrolment_of c i) ++ proxy_rows c i) (T_row w h c a holds.sound i l u (omega (arith, n, initiators)) k))
  row_of GroundA i l u n (on, k) =
      on_row i on (in_right (transport_rows c i) (enrolled_row i ((enrolment_row w h c a holds.sound i l u (enrolment h i)).0 k)))
  row_of GroundW i l u n (on, k) =
      on_row i on (in_right (transport_rows c i) (enrolled_row i ((enrolment_row w h c a holds.sound i l u (enrolment h i)).1 k)))
  row_of GroundX i l u n (on, t, e, q) =
      on_row i on (in_right (transport_rows c i) (in_right (enrolment_rows c i (enrolment_of c i)) (X_row w h c a holds.sound i l u t e q)))
  row_of GroundO i l u n (off, k) =
      off_row i off (in_map (row_at i GroundO) (subst (λ luns. place l u ∈ all_units luns) (sym a.units) k))

  pub stands_row : {r : Row} → Stands w h r → r ∈ rows_of c r.initiator
  stands_row {r} k = row_of r.ground r.initiator r.lun r.unit k.initiator k.ground
