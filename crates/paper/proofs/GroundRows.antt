-- The rows of an initiator by their grounds: T, A or W, and X while access controls are on, O while they are off. An X row is a proxy LUN's whose token is live.
use Prim.Native.Nat.{ℕ}
use mathlib.Core.Path.{◌≡◌, refl, ap, subst}
use mathlib.Core.Bool.{true, false, cond}
use mathlib.Core.List.{List, [], ◌++◌}
use Rattle.std.specs.Prelude.{Option, Some, None}
use mathlib.Core.Logic.{⊎_elim}
use lib.Dec.{eqb}
use borrow.Author.Tests.{eqb-true, eq-eqb}
use Rattle.lists.specs.Lists.{◌∈◌, here, keep, any, is_some}
use Rattle.lists.proofs.Tests.{split, clashes, and_true}
use Rattle.lists.proofs.Members.{find_in, in_cons, in_right, in_append, from_map, in_gather, from_gather, in_keep, from_keep, any_none}
use Rattle.wire.specs.Lun.{lun_of}
use Rattle.paper.specs.Contents.{Content, these}
use Rattle.paper.specs.Tables.{content_of, enrolment_of, tokens_of, proxies_of}
use Rattle.paper.specs.Rows.{is_for, ace_for, content_in, content_for, row_at, rows_at, transport_rows, enrolment_rows, token_for, proxy_row, row_of_proxy, owned_by, proxy_rows, open_rows, rows_of, has_lun}
use Rattle.paper.specs.Applied.{is_proxy}
use Rattle.paper.proofs.ListLaws.{some_there}
use Rattle.paper.specs.declared.state.Ground.{Ground}
use Rattle.paper.specs.declared.state.Ground.TheVariants.{GroundX}
use Rattle.paper.specs.declared.state.IdType.{IdType}
use Rattle.paper.specs.declared.state.Ace.{Ace}
use Rattle.paper.specs.declared.state.Luacd.{Luacd}
use Rattle.paper.specs.declared.state.Token.{Token}
use Rattle.paper.specs.declared.state.ProxyLun.{ProxyLun}
use Rattle.paper.specs.declared.state.Row.{Row}
use Rattle.paper.specs.declared.state.Coordinator.{Coordinator}

-- ---- what an identifier holds is what one of the ACEs holds, or nothing
pub content_by_lem : (P : Content → Type 0) (aces : List Ace) (k : IdType) (id : List ℕ) → P (these []) → ((a : Ace) → a ∈ aces → P (content_of a)) → P (content_for aces k id)
unfolding ace_for
content_by_lem P aces k id nothing each = go (ace_for aces k id) refl
  where
    go : (o : Option Ace) → ace_for aces k id ≡ o → P (content_in o)
    go None e = nothing
    go (Some a) e = each a (find_in (is_for k id) aces e).0

-- ---- on and off
module _ (c : Coordinator) (i : ℕ) where
  pub rows_on : c.enabled ≡ true → rows_of c i ≡ transport_rows c i ++ (enrolment_rows c i (enrolment_of c i) ++ proxy_rows c i)
  unfolding rows_of
  rows_on e =
      ap (λ b. cond b (transport_rows c i ++ (enrolment_rows c i (enrolment_of c i) ++ proxy_rows c i)) (open_rows c i)) e

  pub rows_off : c.enabled ≡ false → rows_of c i ≡ open_rows c i
  unfolding rows_of
  rows_off e =
      ap (λ b. cond b (transport_rows c i ++ (enrolment_rows c i (enrolment_of c i) ++ proxy_rows c i)) (open_rows c i)) e

  -- a row is one of its ground
  pub by_ground_lem : {r : Row} {P : Type 0} → (c.enabled ≡ true → r ∈ transport_rows c i → P) → (c.enabled ≡ true → r ∈ enrolment_rows c i (enrolment_of c i) → P) → (c.enabled ≡ true → r ∈ proxy_rows c i → P) → (c.enabled ≡ false → r ∈ open_rows c i → P) → r ∈ rows_of c i → P
  by_ground_lem {r} t a x o m =
      split c.enabled
      (λ e.
      ⊎_elim
      (λ k. t e k)
      (λ k. ⊎_elim (λ n. a e n) (λ n. x e n) (in_append (enrolment_rows c i (enrolment_of c i)) k))
      (in_append (transport_rows c i) (subst (λ rs. r ∈ rs) (rows_on e) m)))
      (λ e. o e (subst (λ rs. r ∈ rs) (rows_off e) m))

-- what holds of the row of each place holds of each row
pub from_rows_at : (P : Row → Type 0) (i : ℕ) (g : Ground) (ps : List Luacd) → ((p : Luacd) → p ∈ ps → P (row_at i g p)) → {r : Row} → r ∈ rows_at i g ps → P r
from_rows_at P i g ps f m = let (p, k, e) = from_map (row_at i g) ps m in rw e (f p k)

-- ---- X rows
-- the row of a proxy LUN with its token
abbrev pub proxy_to : ProxyLun → Token → Row
proxy_to p t = record { initiator = p.initiator; lun = p.lun; unit = t.unit; ground = GroundX }

pub record ByProxy (c : Coordinator) (i : ℕ) (r : Row) : Type 0 where
  pub proxy : ProxyLun
  pub listed : proxy ∈ proxies_of c
  pub owner : proxy.initiator ≡ i
  pub token : Token
  pub live : token_for (tokens_of c) proxy.token ≡ Some token
  pub row : r ≡ proxy_to proxy token

module _ (c : Coordinator) where
  pub from_proxies : (i : ℕ) {r : Row} → r ∈ proxy_rows c i → ByProxy c i r
  unfolding proxy_rows
  from_proxies i {r} m =
      let (p, k, g) = from_gather (row_of_proxy (tokens_of c)) (keep (owned_by i) (proxies_of c)) m in
      let kept = from_keep (owned_by i) (proxies_of c) k in
      by p kept.0 (eqb-true p.initiator i kept.1) (token_for (tokens_of c) p.token) refl g
    where
      by : (p : ProxyLun) → p ∈ proxies_of c → p.initiator ≡ i → (t : Option Token) → token_for (tokens_of c) p.token ≡ t → r ∈ proxy_row p t → ByProxy c i r
      by p k own None e g = elim g [ ]
      by p k own (Some t) e g =
          ⊎_elim (λ q. record { proxy = p; listed = k; owner = own; token = t; live = e; row = q }) (λ j. elim j [ ]) (in_cons g)

  pub in_proxies : {p : ProxyLun} {t : Token} → p ∈ proxies_of c → token_for (tokens_of c) p.token ≡ Some t → proxy_to p t ∈ proxy_rows c p.initiator
  unfolding proxy_rows
  in_proxies {p} {t} m e =
      let row : proxy_to p t ∈ row_of_proxy (tokens_of c) p = rw e (here refl) in
      in_gather (row_of_proxy (tokens_of c)) (in_keep (owned_by p.initiator) m (eq-eqb p.initiator p.initiator refl)) row

  -- so where no row of an initiator has a LUN, it has no proxy LUN there
  pub no_proxy_lem : (i l : ℕ) {p : ProxyLun} → c.enabled ≡ true → is_some (token_for (tokens_of c) p.token) ≡ true → any (has_lun l) (rows_of c i) ≡ false → p ∈ proxies_of c → is_proxy i l p ≡ false
  no_proxy_lem i l {p} on live free m =
      split (is_proxy i l p)
      (λ e.
      let (own, at) = and_true (eqb p.initiator i) (eqb (lun_of p.lun) l) e in
      let (t, found) = some_there (token_for (tokens_of c) p.token) live in
      let x : proxy_to p t ∈ proxy_rows c i = subst (λ j. proxy_to p t ∈ proxy_rows c j) (eqb-true p.initiator i own) (in_proxies m found) in
      let row : proxy_to p t ∈ rows_of c i = rw (rows_on c i on) (in_right (transport_rows c i) (in_right (enrolment_rows c i (enrolment_of c i)) x)) in
      clashes at (any_none (has_lun l) free row))
      (λ e. e)
