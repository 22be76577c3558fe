-- "The state in words": the first line, and five parts.
use Rattle.std.specs.Prelude.{ℕ, ◌+◌, ◌%◌, List, [], ◌∷◌, ◌++◌, Bool, cond, length, get_or, eqb, ltb}
use Rattle.std.specs.Prelude.{Option, Some, None}
use Rattle.lists.specs.Lists.{gather, below}
use Rattle.lists.specs.Order.{sort}
use Rattle.lists.specs.Bytes.{be_bytes}
use Rattle.paper.specs.Identifiers.{kept}
use Rattle.paper.specs.Contents.{Content, these, everything, Enrolment, not_enrolled, enrolled, pending}
use Rattle.paper.specs.Tables.{content_of, units_of, transports_of, enrolments_of, aces_of, tokens_of, proxies_of}
use Rattle.paper.specs.Rows.{token_for}
use Rattle.paper.specs.Reports.{ace_before, luacd_before, token_before, then_by}
use Rattle.paper.specs.Standing.{standing}
use Rattle.paper.specs.declared.state.IdType.{IdType}
use Rattle.paper.specs.declared.state.IdType.TheVariants.{AccessId, TransportId}
use Rattle.paper.specs.declared.state.Luacd.{Luacd}
use Rattle.paper.specs.declared.state.Ace.{Ace}
use Rattle.paper.specs.declared.state.Token.{Token}
use Rattle.paper.specs.declared.state.ProxyLun.{ProxyLun}
use Rattle.paper.specs.declared.state.Coordinator.{Coordinator}
use Rattle.journal.specs.Texts.{decimal_text, byte_text, hex_text, unit_name, colon_text, comma_text, space_text, end_text}
use Rattle.acl.specs.Words.{on_text, off_text, initiators_name, units_name, aces_name, tokens_name, proxies_name, transport_text, not_text, enrolled_text, pending_text, default_text, access_text, carried_text, everything_text, requested_text, at_text, token_name, initiator_name, lun_name}

-- ---- what lines name

-- "LUNs are nn, two hex digits": of the first two bytes of a LUN, which are kept, nn is the second
unfoldable pub lun_text : ℕ → List ℕ
lun_text l = lun_name ++ byte_text (l % 256)

unfoldable pub unit_text : ℕ → List ℕ
unit_text u = unit_name ++ decimal_text u

unfoldable pub initiator_text : ℕ → List ℕ
initiator_text i = initiator_name ++ decimal_text i

-- "a token's number is 16 hex digits"
unfoldable pub number_text : ℕ → List ℕ
number_text n = hex_text (be_bytes 8 n)

-- "Identifiers are 24 bytes, in hex; the AccessID as it is kept (16 bytes, then zeros)."
unfoldable pub id_text : IdType → List ℕ → List ℕ
id_text k id = hex_text (kept k id)

-- ---- "Then five parts, each after an empty line: its name and how many there are (also if that is 0), and a line for each"
unfoldable pub head_text : List ℕ → ℕ → List ℕ
head_text name n = end_text ++ (name ++ (decimal_text n ++ end_text))

-- ---- "The first line is `access controls on, generation 1` or `access controls off, generation 0`. Never the key."
unfoldable pub switch_text : Bool → List ℕ
switch_text on = cond on on_text off_text ++ end_text

-- ---- initiators, by number
-- "An initiator is `not enrolled`, `enrolled under AccessID ID` or `pending under AccessID ID`."
unfoldable pub enrolment_text : Enrolment → List ℕ
enrolment_text not_enrolled = not_text
enrolment_text (enrolled id) = enrolled_text ++ id_text AccessId id
enrolment_text (pending id) = pending_text ++ id_text AccessId id

unfoldable pub initiator_line : ℕ → List ℕ → Enrolment → List ℕ
initiator_line i id e = decimal_text i ++ (transport_text ++ (id_text TransportId id ++ (colon_text ++ (enrolment_text e ++ end_text))))

abbrev pub initiator_lines : ℕ → List (List ℕ) → List Enrolment → List ℕ
initiator_lines n ids es = gather (λ i. initiator_line i (get_or ids i []) (get_or es i not_enrolled)) (below n)

unfoldable pub initiators_text : List (List ℕ) → List Enrolment → List ℕ
initiators_text ids es = head_text initiators_name (length ids) ++ initiator_lines (length ids) ids es

-- ---- units, by number
unfoldable pub unit_line : ℕ → ℕ → List ℕ
unit_line u l = decimal_text u ++ (default_text ++ (lun_text l ++ end_text))

abbrev pub unit_lines : ℕ → List ℕ → List ℕ
unit_lines n luns = gather (λ u. unit_line u (get_or luns u 0)) (below n)

unfoldable pub units_text : List ℕ → List ℕ
units_text luns = head_text units_name (length luns) ++ unit_lines (length luns) luns

-- ---- "ACEs, AccessIDs first, and by identifier, the LUACDs of one by LUN"
abbrev pub kind_text : IdType → List ℕ
kind_text AccessId = access_text
kind_text TransportId = carried_text

-- a comma before each LUACD but the first
abbrev pub between_text : ℕ → List ℕ
between_text k = cond (eqb k 0) [] comma_text

unfoldable pub luacd_text : ℕ → Luacd → List ℕ
luacd_text k p = between_text k ++ (lun_text p.lun ++ (space_text ++ unit_text p.unit))

-- the LUACDs from the k-th on
unfoldable pub luacds_text : ℕ → List Luacd → List ℕ
luacds_text k [] = []
luacds_text k (p ∷ ps) = luacd_text k p ++ luacds_text (k + 1) ps

unfoldable pub content_text : Content → List ℕ
content_text (these ls) = luacds_text 0 (sort luacd_before ls)
content_text everything = everything_text

unfoldable pub ace_line : Ace → List ℕ
ace_line a = kind_text a.kind ++ (id_text a.kind a.id ++ (colon_text ++ (content_text (content_of a) ++ end_text)))

abbrev pub ace_lines : List Ace → List ℕ
ace_lines aces = gather ace_line (sort ace_before aces)

unfoldable pub aces_text : List Ace → List ℕ
aces_text aces = head_text aces_name (length aces) ++ ace_lines aces

-- ---- "tokens by number"
unfoldable pub request_text : ℕ → ℕ → List ℕ
request_text i l = requested_text ++ (initiator_text i ++ (at_text ++ lun_text l))

unfoldable pub token_line : Token → List ℕ
token_line t =
    number_text t.number ++ (colon_text ++ (unit_text t.unit ++ (request_text t.requester t.lun ++ end_text)))

abbrev pub token_lines : List Token → List ℕ
token_lines ts = gather token_line (sort token_before ts)

unfoldable pub tokens_text : List Token → List ℕ
tokens_text ts = head_text tokens_name (length ts) ++ token_lines ts

-- ---- "proxy LUNs by initiator, then LUN"
abbrev pub proxy_before : ProxyLun → ProxyLun → Bool
proxy_before p q = then_by p.initiator q.initiator (ltb p.lun q.lun)

-- the unit of a proxy LUN is its token's, which is there if the state stands
abbrev pub unit_of : Option Token → ℕ
unit_of None = 0
unit_of (Some t) = t.unit

unfoldable pub holder_text : ℕ → ℕ → List ℕ
holder_text i l = initiator_text i ++ (comma_text ++ lun_text l)

unfoldable pub proxy_line : List Token → ProxyLun → List ℕ
proxy_line ts p =
    holder_text p.initiator p.lun
    ++ (colon_text ++ (unit_text (unit_of (token_for ts p.token)) ++ (token_name ++ (number_text p.token ++ end_text))))

abbrev pub proxy_lines : List Token → List ProxyLun → List ℕ
proxy_lines ts ps = gather (proxy_line ts) (sort proxy_before ps)

unfoldable pub proxies_text : List Token → List ProxyLun → List ℕ
proxies_text ts ps = head_text proxies_name (length ps) ++ proxy_lines ts ps

-- ---- all of it
unfoldable pub acl_text : Coordinator → List ℕ
acl_text c =
    switch_text c.enabled
    ++ (initiators_text (transports_of c) (enrolments_of c)
    ++ (units_text (units_of c)
    ++ (aces_text (aces_of c)
    ++ (tokens_text (tokens_of c)
    ++ proxies_text (tokens_of c) (proxies_of c)))))

-- a state that does not stand is none of a coordinator's, and nothing is said of it
unfoldable pub state_text : Coordinator → List ℕ
state_text c = cond (standing c) (acl_text c) []
