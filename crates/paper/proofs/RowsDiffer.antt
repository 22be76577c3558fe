-- No row of a standing coordinator stands twice: "each once".
use Prim.Native.Nat.{ℕ, suc, ◌≤◌}
use mathlib.Core.Path.{◌≡◌, refl, ap, sym, ◌∙◌}
use mathlib.Core.Bool.{Bool, true, false, cond, not}
use mathlib.Core.List.{List, [], ◌∷◌, ◌++◌}
use Rattle.std.specs.Prelude.{Option, Some, None}
use mathlib.Core.Logic.{⊎_elim}
use native.Mathlib.Omega.{arith}
use borrow.Author.Tests.{not-true, eq-eqb}
use Rattle.lists.specs.Lists.{◌∈◌, any, keep, pairs, gather, below, Different}
use Rattle.lists.proofs.Tests.{or_false, clashes}
use Rattle.lists.proofs.Members.{in_cons, in_append, from_map, from_gather, any_none, pairs_keep, pairs_different, different_append}
use Rattle.lists.proofs.Parts.{different_count}
use Rattle.paper.specs.Grounds.{letter_of}
use Rattle.paper.specs.Contents.{Content, these, everything, Enrolment, not_enrolled, enrolled, pending, numbered, held}
use Rattle.paper.specs.Tables.{content_of, units_of, aces_of, tokens_of, proxies_of, enrolment_of, transport_of}
use Rattle.paper.specs.Rows.{content_for, row_at, rows_at, transport_rows, enrolment_rows, token_for, proxy_row, row_of_proxy, owned_by, proxy_rows, open_rows, rows_of}
use Rattle.paper.specs.Standing.{listed_in, same_lun_or_unit, same_proxy}
use Rattle.paper.proofs.Stood.{Stood}
use Rattle.paper.proofs.Ruled.{ruled}
use Rattle.paper.proofs.GroundRows.{content_by_lem, from_rows_at, from_proxies}
use Rattle.paper.proofs.ListLaws.{different_gather}
use Rattle.paper.proofs.OwnRows.{rows_own}
use Rattle.paper.specs.declared.state.Ground.{Ground}
use Rattle.paper.specs.declared.state.Ground.TheVariants.{GroundA, GroundO, GroundT, GroundW, GroundX}
use Rattle.paper.specs.declared.state.IdType.{IdType}
use Rattle.paper.specs.declared.state.IdType.TheVariants.{AccessId, TransportId}
use Rattle.paper.specs.declared.state.Luacd.{Luacd}
use Rattle.paper.specs.declared.state.Token.{Token}
use Rattle.paper.specs.declared.state.ProxyLun.{ProxyLun}
use Rattle.paper.specs.declared.state.Row.{Row}
use Rattle.paper.specs.declared.state.Coordinator.{Coordinator}

-- ---- the rows of one ground
-- what is numbered differs in its number
numbered_least : {p : Luacd} (n : ℕ) (luns : List ℕ) → p ∈ numbered n luns → n ≤ p.unit
unfolding numbered
numbered_least n [] m = elim m [ ]
numbered_least n (l ∷ ls) m =
    ⊎_elim (λ e. omega (arith, ap (λ q. q.unit) e)) (λ k. omega (arith, numbered_least (suc n) ls k)) (in_cons m)

numbered_differ : (n : ℕ) (luns : List ℕ) → Different (numbered n luns)
unfolding numbered Different
numbered_differ n [] = tt
numbered_differ n (l ∷ ls) = (λ h. omega (arith, numbered_least (suc n) ls h), numbered_differ (suc n) ls)

-- places that differ are rows that differ
rows_at_differ : (i : ℕ) (g : Ground) (ps : List Luacd) → Different ps → Different (rows_at i g ps)
unfolding Different
rows_at_differ i g [] d = tt
rows_at_differ i g (p ∷ ps) d = (λ h. d.0 (there_too h), rows_at_differ i g ps d.1)
  where
    place_of_row : Row → Luacd
    place_of_row r = record { lun = r.lun; unit = r.unit }

    there_too : row_at i g p ∈ rows_at i g ps → p ∈ ps
    there_too h =
        let (q, m, e) = from_map (row_at i g) ps h in
        let same : p ≡ q = ap place_of_row e in rw same m

module _ (c : Coordinator) (s : Stood c) where
  -- the places of an identifier
  abbrev found : IdType → List ℕ → List Luacd
  found k id = held (units_of c) (content_for (aces_of c) k id)

  held_differ : (content : Content) → not (pairs same_lun_or_unit (listed_in content)) ≡ true → Different (held (units_of c) content)
  held_differ (these ls) h =
      pairs_different same_lun_or_unit ls (λ p. rw (eq-eqb p.lun p.lun refl)) (not-true _ h)
  held_differ everything h = numbered_differ 0 (units_of c)

  found_differ : (k : IdType) (id : List ℕ) → Different (held (units_of c) (content_for (aces_of c) k id))
  unfolding Different
  found_differ k id =
      content_by_lem (λ x. Different (held (units_of c) x)) (aces_of c) k id tt (λ a m. held_differ (content_of a) ((ruled c s).aces.each a m).once)

  enrolment_differ : (i : ℕ) (e : Enrolment) → Different (enrolment_rows c i e)
  unfolding enrolment_rows Different
  enrolment_differ i not_enrolled = tt
  enrolment_differ i (enrolled id) = rows_at_differ i GroundA (found AccessId id) (found_differ AccessId id)
  enrolment_differ i (pending id) = rows_at_differ i GroundW (found AccessId id) (found_differ AccessId id)

  -- an X row is its proxy LUN's, and one initiator's proxy LUNs differ in their LUN
  proxies_differ : (ps : List ProxyLun) → pairs same_proxy ps ≡ false → Different (gather (row_of_proxy (tokens_of c)) ps)
  unfolding pairs Different
  proxies_differ [] e = tt
  proxies_differ (p ∷ ps) e =
      let parted = or_false (any (same_proxy p) ps) (pairs same_proxy ps) e in
      different_append (row_of_proxy (tokens_of c) p) (gather (row_of_proxy (tokens_of c)) ps) (one (token_for (tokens_of c) p.token)) (proxies_differ ps parted.1)
      (λ x h k. let (q, m, g) = from_gather (row_of_proxy (tokens_of c)) ps k in clashes (same q x (of_proxy p x (token_for (tokens_of c) p.token) h) (of_proxy q x (token_for (tokens_of c) q.token) g)) (any_none (same_proxy p) parted.0 m))
    where
      one : (o : Option Token) → Different (proxy_row p o)
      one None = tt
      one (Some t) = (λ h. elim h [ ], tt)

      of_proxy : (q : ProxyLun) (x : Row) (o : Option Token) → x ∈ proxy_row q o → (x.initiator ≡ q.initiator) × (x.lun ≡ q.lun)
      of_proxy q x None h = elim h [ ]
      of_proxy q x (Some t) h = ⊎_elim (λ e. (ap (λ r. r.initiator) e, ap (λ r. r.lun) e)) (λ k. elim k [ ]) (in_cons h)

      same : (q : ProxyLun) (x : Row) → (x.initiator ≡ p.initiator) × (x.lun ≡ p.lun) → (x.initiator ≡ q.initiator) × (x.lun ≡ q.lun) → same_proxy p q ≡ true
      same q x a b =
          rw (eq-eqb p.initiator q.initiator (sym a.0 ∙ b.0), eq-eqb p.lun q.lun (sym a.1 ∙ b.1))

  own_proxies_differ : (i : ℕ) → Different (proxy_rows c i)
  unfolding proxy_rows
  own_proxies_differ i =
      proxies_differ (keep (owned_by i) (proxies_of c))
      (pairs_keep same_proxy (owned_by i) (proxies_of c) (ruled c s).proxies.once)

  -- ---- grounds differ
  at_ground : {x : Row} (i : ℕ) (g : Ground) (ps : List Luacd) → x ∈ rows_at i g ps → x.ground ≡ g
  at_ground i g ps h = from_rows_at (λ r. r.ground ≡ g) i g ps (λ p m. refl) h

  proxy_ground : {x : Row} (i : ℕ) → x ∈ proxy_rows c i → x.ground ≡ GroundX
  proxy_ground i h = ap (λ r. r.ground) (from_proxies c i h).row

  -- the letters of two grounds are the same if the grounds are
  other_ground : {of g k : Ground} → of ≡ g → of ≡ k → letter_of g ≡ letter_of k
  other_ground a b = ap letter_of (sym a ∙ b)

  enrolment_other : {x : Row} (i : ℕ) (e : Enrolment) (g : Ground) → (letter_of g ≡ letter_of GroundA → ⊥) → (letter_of g ≡ letter_of GroundW → ⊥) → x.ground ≡ g → x ∈ enrolment_rows c i e → ⊥
  unfolding enrolment_rows
  enrolment_other i not_enrolled g a b e h = elim h [ ]
  enrolment_other i (enrolled id) g a b e h = a (other_ground e (at_ground i GroundA (found AccessId id) h))
  enrolment_other i (pending id) g a b e h = b (other_ground e (at_ground i GroundW (found AccessId id) h))

  with_transport : (i : ℕ) → Different (enrolment_rows c i (enrolment_of c i) ++ proxy_rows c i) → Different (transport_rows c i ++ (enrolment_rows c i (enrolment_of c i) ++ proxy_rows c i))
  unfolding transport_rows
  with_transport i d =
      different_append (transport_rows c i) (enrolment_rows c i (enrolment_of c i) ++ proxy_rows c i) (rows_at_differ i GroundT (found TransportId (transport_of c i)) (found_differ TransportId (transport_of c i))) d
      (λ x h k.
      ⊎_elim
      (enrolment_other i (enrolment_of c i) GroundT (λ e. omega arith) (λ e. omega arith) (at_ground i GroundT (found TransportId (transport_of c i)) h))
      (λ j. omega (arith, other_ground (at_ground i GroundT (found TransportId (transport_of c i)) h) (proxy_ground i j)))
      (in_append (enrolment_rows c i (enrolment_of c i)) k))

  open_differ : (i : ℕ) → Different (open_rows c i)
  unfolding open_rows
  open_differ i = rows_at_differ i GroundO (numbered 0 (units_of c)) (numbered_differ 0 (units_of c))

  -- ---- the rows of one initiator, and of all
  rows_differ : (i : ℕ) → Different (rows_of c i)
  unfolding rows_of
  rows_differ i = go c.enabled
    where
      enrolled_and_proxies : Different (enrolment_rows c i (enrolment_of c i) ++ proxy_rows c i)
      enrolled_and_proxies =
          different_append (enrolment_rows c i (enrolment_of c i)) (proxy_rows c i) (enrolment_differ i (enrolment_of c i)) (own_proxies_differ i)
          (λ x h k. enrolment_other i (enrolment_of c i) GroundX (λ e. omega arith) (λ e. omega arith) (proxy_ground i k) h)

      go : (on : Bool) → Different (cond on (transport_rows c i ++ (enrolment_rows c i (enrolment_of c i) ++ proxy_rows c i)) (open_rows c i))
      go true = with_transport i enrolled_and_proxies
      go false = open_differ i

  pub all_rows_differ : (n : ℕ) → Different (gather (rows_of c) (below n))
  all_rows_differ n =
      different_gather (rows_of c) (below n) (different_count 0 n) (λ i h. rows_differ i) (λ i j x h k. sym (rows_own c s i h).0 ∙ (rows_own c s j k).0)
