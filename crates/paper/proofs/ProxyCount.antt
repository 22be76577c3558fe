-- The X rows of the reach list are as many as the proxy LUNs: each proxy LUN's initiator is there, and its token is live.
use Prim.Native.Nat.{ℕ, ◌+◌, ◌≤◌, ◌<◌}
use mathlib.Core.Path.{◌≡◌, refl, ap, sym, ◌∙◌}
use mathlib.Core.Bool.{Bool, true, false, cond}
use mathlib.Core.List.{List, [], ◌∷◌, ◌++◌}
use Rattle.std.specs.Prelude.{Option, Some, None}
use mathlib.Core.Logic.{⊎_elim}
use native.Mathlib.Omega.{arith}
use lib.ListN.{length, take, length-append}
use lib.Dec.{eqb, ltb}
use borrow.Author.Tests.{ltb-true, eqb-true, eq-eqb}
use Rattle.lists.specs.Lists.{◌∈◌, here, there, keep, all, is_some, gather, count, below}
use Rattle.lists.specs.Order.{sort}
use Rattle.lists.proofs.Tests.{split, clashes, and_true, or_true}
use Rattle.lists.proofs.Members.{in_cons, from_gather, in_gather, from_keep, all_in, in_all, none_any, keep_append, keep_all, keep_none}
use Rattle.lists.proofs.Parts.{in_count}
use Rattle.lists.proofs.Sums.{gather_both, gather_over, gather_sort, shared_out}
use Rattle.paper.specs.Contents.{Enrolment, not_enrolled, enrolled, pending, held, all_units}
use Rattle.paper.specs.Tables.{units_of, transport_of, enrolment_of, aces_of, tokens_of, proxies_of}
use Rattle.paper.specs.Rows.{content_for, rows_at, transport_rows, enrolment_rows, token_for, proxy_row, owned_by, row_of_proxy, proxy_rows, open_rows, rows_of}
use Rattle.paper.specs.Standing.{ace_refers, token_refers, proxy_refers, references_there, empty_while_off, standing}
use Rattle.paper.specs.Reports.{row_before, reach_rows}
use Rattle.paper.proofs.Stood.{stood}
use Rattle.paper.proofs.GroundRows.{from_rows_at}
use Rattle.paper.proofs.GroundRows.{rows_on, rows_off}
use Rattle.paper.specs.declared.state.Ground.{Ground}
use Rattle.paper.specs.declared.state.Ground.TheVariants.{GroundA, GroundO, GroundT, GroundW, GroundX}
use Rattle.paper.specs.declared.state.IdType.TheVariants.{AccessId, TransportId}
use Rattle.paper.specs.declared.state.Luacd.{Luacd}
use Rattle.paper.specs.declared.state.Token.{Token}
use Rattle.paper.specs.declared.state.ProxyLun.{ProxyLun}
use Rattle.paper.specs.declared.state.Row.{Row}
use Rattle.paper.specs.declared.state.Coordinator.{Coordinator}

-- ---- how many of a list are kept, in whatever order it stands
abbrev alone : {A : Type 0} → (A → Bool) → A → List A
alone p x = cond (p x) (x ∷ []) []

keep_gathered : {A : Type 0} (p : A → Bool) (l : List A) → keep p l ≡ gather (alone p) l
keep_gathered p [] = refl
keep_gathered p (x ∷ l) = split (p x) (λ e. rw (e, keep_gathered p l)) (λ e. rw (e, keep_gathered p l))

length_keep_sort : {A : Type 0} (p : A → Bool) (before : A → A → Bool) (l : List A) → length (keep p (sort before l)) ≡ length (keep p l)
length_keep_sort p before l =
    ap length (keep_gathered p (sort before l)) ∙ (gather_sort (alone p) before l ∙ ap length (sym (keep_gathered p l)))

keep_gather : {A B : Type 0} (p : B → Bool) (f : A → List B) (l : List A) → keep p (gather f l) ≡ gather (λ x. keep p (f x)) l
keep_gather p f [] = refl
keep_gather p f (x ∷ l) = keep_append p (f x) (gather f l) ∙ ap (λ m. keep p (f x) ++ m) (keep_gather p f l)

-- lists of the same lengths make lists of the same length
gather_lengths : {A B C : Type 0} (f : A → List B) (g : A → List C) (l : List A) → ((x : A) → x ∈ l → length (f x) ≡ length (g x)) → length (gather f l) ≡ length (gather g l)
gather_lengths f g [] h = refl
gather_lengths f g (x ∷ l) h =
    simp length-append (omega (arith, h x (here refl), gather_lengths f g l (λ y m. h y (there m))))

-- one for each
gather_ones : {A B : Type 0} (f : A → List B) (l : List A) → ((x : A) → x ∈ l → length (f x) ≡ 1) → length (gather f l) ≡ length l
gather_ones f [] h = refl
gather_ones f (x ∷ l) h =
    simp length-append (omega (arith, h x (here refl), gather_ones f l (λ y m. h y (there m))))

-- ---- elements shared out by a number, which are among those: together as many as there are
some_there : {A : Type 0} {x : A} {l : List A} → x ∈ l → 1 ≤ length l
some_there (here e) = omega arith
some_there (there m) = omega arith

module _ {B : Type 0} (share : B → ℕ) (k n : ℕ) where
  shared_least : (l : List B) → ((x : B) → x ∈ l → (k ≤ share x) × (share x < k + n)) → length l ≤ length (gather (λ i. keep (λ x. eqb (share x) i) l) (count k n))
  shared_least [] h = omega arith
  shared_least (x ∷ l) h =
      let (low, high) = h x (here refl) in
      let mine : x ∈ cond (eqb (share x) (share x)) (x ∷ []) [] = rw (eq-eqb (share x) (share x) refl) (here refl) in
      let one = some_there (in_gather (λ i. cond (eqb (share x) i) (x ∷ []) []) (in_count k n low high) mine) in
      omega (
        arith,
        one,
        shared_least l (λ y m. h y (there m)),
        gather_both (λ i. cond (eqb (share x) i) (x ∷ []) []) (λ i. keep (λ y. eqb (share y) i) l) (count k n),
        gather_over (λ i. cond (eqb (share x) i) (x ∷ []) [] ++ keep (λ y. eqb (share y) i) l) (λ i. keep (λ y. eqb (share y) i) (x ∷ l)) 0 (count k n) (λ i m. at i),
      )
    where
      at : (i : ℕ) → length (cond (eqb (share x) i) (x ∷ []) [] ++ keep (λ y. eqb (share y) i) l) ≤ 0 + length (keep (λ y. eqb (share y) i) (x ∷ l))
      at i = split (eqb (share x) i) (λ e. rw e (omega arith)) (λ e. rw e (omega arith))

  shared_all : (l : List B) → ((x : B) → x ∈ l → (k ≤ share x) × (share x < k + n)) → length (gather (λ i. keep (λ x. eqb (share x) i) l) (count k n)) ≡ length l
  shared_all l h = omega (arith, shared_least l h, shared_out share k n l)

-- ---- X rows
abbrev on_x : Ground → Bool
on_x GroundA = false
on_x GroundO = false
on_x GroundT = false
on_x GroundW = false
on_x GroundX = true

abbrev pub is_x : Row → Bool
is_x r = on_x r.ground

-- the rows of another ground are none
none_at : (i : ℕ) (g : Ground) (ps : List Luacd) → on_x g ≡ false → keep is_x (rows_at i g ps) ≡ []
none_at i g ps e =
    keep_none is_x (rows_at i g ps)
    (none_any is_x (rows_at i g ps) (λ r m. from_rows_at (λ q. is_x q ≡ false) i g ps (λ p k. e) m))

module _ (c : Coordinator) (stands : standing c ≡ true) where
  -- a proxy LUN's initiator is there, and its token is live
  refers : (p : ProxyLun) → p ∈ proxies_of c → (p.initiator < c.initiators.count) × (is_some (token_for (tokens_of c) p.token) ≡ true)
  unfolding references_there
  refers p m =
      let aces = (and_true (all (ace_refers c) (aces_of c)) _ (stood c stands).references).1 in
      let tokens = (and_true (all (token_refers c) (tokens_of c)) _ aces).1 in
      let proxies = (and_true (all (proxy_refers c) (proxies_of c)) _ tokens).0 in
      let (owner, live) = and_true (ltb p.initiator c.initiators.count) (is_some (token_for (tokens_of c) p.token)) (all_in (proxy_refers c) proxies m) in
      (ltb-true p.initiator c.initiators.count owner, live)

  -- so it has one row
  one_row : (p : ProxyLun) → p ∈ proxies_of c → length (row_of_proxy (tokens_of c) p) ≡ 1
  one_row p m = go (token_for (tokens_of c) p.token) (refers p m).1
    where
      go : (o : Option Token) → is_some o ≡ true → length (proxy_row p o) ≡ 1
      go None e = clashes e refl
      go (Some t) e = refl

  x_rows : (i : ℕ) → keep is_x (proxy_rows c i) ≡ proxy_rows c i
  unfolding proxy_rows
  x_rows i =
      keep_all is_x (gather (row_of_proxy (tokens_of c)) (keep (owned_by i) (proxies_of c)))
      (in_all is_x (gather (row_of_proxy (tokens_of c)) (keep (owned_by i) (proxies_of c))) (λ r m.
      let (p, k, g) = from_gather (row_of_proxy (tokens_of c)) (keep (owned_by i) (proxies_of c)) m in
      by r p (token_for (tokens_of c) p.token) g))
    where
      by : (r : Row) (p : ProxyLun) (o : Option Token) → r ∈ proxy_row p o → is_x r ≡ true
      by r p None m = elim m [ ]
      by r p (Some t) m = ⊎_elim (λ e. ap is_x e) (λ j. elim j [ ]) (in_cons m)

  none_enrolled : (i : ℕ) (e : Enrolment) → keep is_x (enrolment_rows c i e) ≡ []
  unfolding enrolment_rows
  none_enrolled i not_enrolled = refl
  none_enrolled i (enrolled id) = none_at i GroundA (held (units_of c) (content_for (aces_of c) AccessId id)) refl
  none_enrolled i (pending id) = none_at i GroundW (held (units_of c) (content_for (aces_of c) AccessId id)) refl

  none_t : (i : ℕ) → keep is_x (transport_rows c i) ≡ []
  unfolding transport_rows
  none_t i = none_at i GroundT (held (units_of c) (content_for (aces_of c) TransportId (transport_of c i))) refl

  none_o : (i : ℕ) → keep is_x (open_rows c i) ≡ []
  unfolding open_rows
  none_o i = none_at i GroundO (all_units (units_of c)) refl

  -- while on, the X rows of an initiator are its proxy LUNs'
  x_rows_on : (i : ℕ) → c.enabled ≡ true → keep is_x (rows_of c i) ≡ proxy_rows c i
  x_rows_on i on =
      ap (keep is_x) (rows_on c i on)
      ∙ (keep_append is_x (transport_rows c i) (enrolment_rows c i (enrolment_of c i) ++ proxy_rows c i)
      ∙ (ap (λ m. m ++ keep is_x (enrolment_rows c i (enrolment_of c i) ++ proxy_rows c i)) (none_t i)
      ∙ (keep_append is_x (enrolment_rows c i (enrolment_of c i)) (proxy_rows c i)
      ∙ (ap (λ m. m ++ keep is_x (proxy_rows c i)) (none_enrolled i (enrolment_of c i))
      ∙ x_rows i))))

  -- while off there is no token, so no proxy LUN
  no_tokens : c.enabled ≡ false → tokens_of c ≡ []
  unfolding empty_while_off
  no_tokens off =
      ⊎_elim
      (λ on. clashes on off)
      (λ e.
      let rest = (and_true (eqb c.acl.count 0) _ e).1 in
      let zero = eqb-true c.tokens.count 0 (and_true (eqb c.tokens.count 0) _ rest).0 in
      ap (λ n. take n c.tokens.items) zero)
      (or_true c.enabled _ (stood c stands).off)

  no_proxy_lem : c.enabled ≡ false → (p : ProxyLun) → p ∈ proxies_of c → ⊥
  unfolding token_for
  no_proxy_lem off p m =
      clashes (refers p m).1 (ap (λ ts. is_some (token_for ts p.token)) (no_tokens off))

  -- either way, one for each proxy LUN of the initiator
  x_rows_of : (i : ℕ) → length (keep is_x (rows_of c i)) ≡ length (keep (owned_by i) (proxies_of c))
  unfolding proxy_rows
  x_rows_of i =
      split c.enabled
      (λ on. ap length (x_rows_on i on) ∙ gather_ones (row_of_proxy (tokens_of c)) (keep (owned_by i) (proxies_of c)) (λ p m. one_row p (from_keep (owned_by i) (proxies_of c) m).0))
      (λ off. ap length (ap (keep is_x) (rows_off c i off) ∙ none_o i) ∙ ap length (sym (keep_none (owned_by i) (proxies_of c) (none_any (owned_by i) (proxies_of c) (λ p m. absurd (no_proxy_lem off p m))))))

  -- "X its proxy LUNs": the X rows of the list are as many as the proxy LUNs over all initiators
  pub x_rows_count : length (keep is_x (reach_rows c)) ≡ length (proxies_of c)
  unfolding reach_rows
  x_rows_count =
      length_keep_sort is_x row_before (gather (rows_of c) (below c.initiators.count))
      ∙ (ap length (keep_gather is_x (rows_of c) (below c.initiators.count))
      ∙ (gather_lengths (λ i. keep is_x (rows_of c i)) (λ i. keep (owned_by i) (proxies_of c)) (below c.initiators.count) (λ i m. x_rows_of i)
      ∙ shared_all (λ p. p.initiator) 0 c.initiators.count (proxies_of c) (λ p m. (omega arith, omega (arith, (refers p m).0)))))
