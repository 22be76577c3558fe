-- "Rows of an initiator", clashes, and what a LUN opens.
use Rattle.std.specs.Prelude.{ℕ, List, [], ◌∷◌, ◌++◌, map, Bool, cond, not, ◌&&◌, ◌||◌, eqb}
use Rattle.std.specs.Prelude.{Option, Some, None}
use Rattle.lists.specs.Lists.{find, keep, any, pairs, gather, below}
use Rattle.wire.specs.Lun.{lun_of}
use Rattle.paper.specs.Identifiers.{same_id}
use Rattle.paper.specs.Grounds.{is_taw, is_w}
use Rattle.paper.specs.Contents.{Content, these, all_units, held, Enrolment, not_enrolled, enrolled, pending}
use Rattle.paper.specs.Tables.{content_of, units_of, transport_of, enrolment_of, aces_of, tokens_of, proxies_of}
use Rattle.paper.specs.declared.state.IdType.{IdType}
use Rattle.paper.specs.declared.state.IdType.TheVariants.{AccessId, TransportId}
use Rattle.paper.specs.declared.state.Luacd.{Luacd}
use Rattle.paper.specs.declared.state.Ace.{Ace}
use Rattle.paper.specs.declared.state.Token.{Token}
use Rattle.paper.specs.declared.state.ProxyLun.{ProxyLun}
use Rattle.paper.specs.declared.state.Coordinator.{Coordinator}
use Rattle.paper.specs.declared.state.Ground.{Ground}
use Rattle.paper.specs.declared.state.Ground.TheVariants.{GroundA, GroundO, GroundT, GroundW, GroundX}
use Rattle.paper.specs.declared.state.Row.{Row}

-- ---- what an identifier holds
abbrev pub is_for : IdType → List ℕ → Ace → Bool
is_for k id a = same_id a.kind a.id k id

unfoldable pub ace_for : List Ace → IdType → List ℕ → Option Ace
ace_for aces k id = find (is_for k id) aces

-- an identifier without an ACE holds nothing
abbrev pub content_in : Option Ace → Content
content_in None = these []
content_in (Some a) = content_of a

abbrev pub content_for : List Ace → IdType → List ℕ → Content
content_for aces k id = content_in (ace_for aces k id)

-- ---- rows
-- a row by its four parts
abbrev pub row_by : ℕ → ℕ → ℕ → (ground : Ground) → Row
row_by i l u g = record { initiator = i; lun = l; unit = u; ground = g }

abbrev pub row_at : ℕ → Ground → Luacd → Row
row_at i g p = record { initiator = i; lun = p.lun; unit = p.unit; ground = g }

abbrev pub rows_at : ℕ → Ground → List Luacd → List Row
rows_at i g ps = map (row_at i g) ps

-- "T from its TransportID's ACE"
unfoldable pub transport_rows : Coordinator → ℕ → List Row
transport_rows c i = rows_at i GroundT (held (units_of c) (content_for (aces_of c) TransportId (transport_of c i)))

-- "A from its AccessID's ACE when enrolled, W the same when pending"
unfoldable pub enrolment_rows : Coordinator → ℕ → Enrolment → List Row
enrolment_rows c i not_enrolled = []
enrolment_rows c i (enrolled id) = rows_at i GroundA (held (units_of c) (content_for (aces_of c) AccessId id))
enrolment_rows c i (pending id) = rows_at i GroundW (held (units_of c) (content_for (aces_of c) AccessId id))

-- a live token by its number
abbrev pub has_number : ℕ → Token → Bool
has_number n t = eqb t.number n

unfoldable pub token_for : List Token → ℕ → Option Token
token_for ts n = find (has_number n) ts

-- "X its proxy LUNs", each to the unit of its token
abbrev pub proxy_row : ProxyLun → Option Token → List Row
proxy_row p None = []
proxy_row p (Some t) = record { initiator = p.initiator; lun = p.lun; unit = t.unit; ground = GroundX } ∷ []

abbrev pub owned_by : ℕ → ProxyLun → Bool
owned_by i p = eqb p.initiator i

abbrev pub row_of_proxy : List Token → ProxyLun → List Row
row_of_proxy ts p = proxy_row p (token_for ts p.token)

unfoldable pub proxy_rows : Coordinator → ℕ → List Row
proxy_rows c i = gather (row_of_proxy (tokens_of c)) (keep (owned_by i) (proxies_of c))

-- "Disabled: each initiator has a row O for each unit at its default LUN."
unfoldable pub open_rows : Coordinator → ℕ → List Row
open_rows c i = rows_at i GroundO (all_units (units_of c))

-- the rows of an initiator, enabled or disabled
unfoldable pub rows_of : Coordinator → ℕ → List Row
rows_of c i =
    cond c.enabled
    (transport_rows c i ++ (enrolment_rows c i (enrolment_of c i) ++ proxy_rows c i))
    (open_rows c i)

-- ---- clashes
-- "A clash: two rows with one LUN and two units, or two rows of T, A, W with one unit and two LUNs."
unfoldable pub clashing : Row → Row → Bool
clashing r q =
    (eqb r.lun q.lun && not (eqb r.unit q.unit))
    || ((is_taw r.ground && is_taw q.ground) && (eqb r.unit q.unit && not (eqb r.lun q.lun)))

abbrev pub clash_in : List Row → Bool
clash_in rows = pairs clashing rows

abbrev pub clash_for : Coordinator → ℕ → Bool
clash_for c i = clash_in (rows_of c i)

-- "some initiator has a clash"
unfoldable pub some_clash : Coordinator → Bool
some_clash c = any (clash_for c) (below c.initiators.count)

-- ---- what a LUN opens; a LUN that is asked for is its eight bytes as one number, and all of them are compared
abbrev pub has_lun : ℕ → Row → Bool
has_lun l r = eqb (lun_of r.lun) l

-- the first row with that LUN on one of some grounds
unfoldable pub row_with : (Ground → Bool) → ℕ → List Row → Option Row
row_with on l rows = find (λ r. on r.ground && has_lun l r) rows

-- "if W has it"
unfoldable pub pending_has : ℕ → List Row → Bool
pending_has l rows = any (λ r. is_w r.ground && has_lun l r) rows
