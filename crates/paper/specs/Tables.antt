-- What the coordinator keeps. A table is read as the list of its entries in use, and written by one setter that puts blanks after them, so that every entry of the next state is determined.
use Rattle.std.specs.Prelude.{ℕ, List, [], ◌∷◌, map, Bool, cond, length, get_or, take, drop, replicate, eqb}
use Rattle.lists.specs.Lists.{parts, gather}
use Rattle.lists.specs.Tables.{pad}
use Rattle.paper.specs.Sizes.{max_units, max_aces, max_luacds, max_tokens, max_proxies, id_size, enrolment_size, ids_size, enrolments_size}
use Rattle.paper.specs.Identifiers.{kept}
use Rattle.paper.specs.Contents.{Content, these, everything, Enrolment, not_enrolled, enrolled, pending}
use Rattle.paper.specs.declared.state.IdType.{IdType}
use Rattle.paper.specs.declared.state.IdType.TheVariants.{AccessId, TransportId}
use Rattle.paper.specs.declared.state.Extent.{Extent}
use Rattle.paper.specs.declared.state.Extent.TheVariants.{Listed, Everything}
use Rattle.paper.specs.declared.state.Luacd.{Luacd}
use Rattle.paper.specs.declared.state.Ace.{Ace}
use Rattle.lists.specs.declared.Table.{Table}
use Rattle.paper.specs.declared.state.Token.{Token}
use Rattle.paper.specs.declared.state.Tokens.{Tokens}
use Rattle.paper.specs.declared.state.ProxyLun.{ProxyLun}
use Rattle.paper.specs.declared.state.ProxyLuns.{ProxyLuns}
use Rattle.paper.specs.declared.state.Initiators.{Initiators}
use Rattle.paper.specs.declared.state.Units.{Units}
use Rattle.paper.specs.declared.state.Coordinator.{Coordinator}

-- the ACL: at most 32 ACEs
abbrev pub Acl : Type 0
Acl = Table Ace max_aces

-- ---- blanks
abbrev pub no_luacd : Luacd
no_luacd = record { lun = 0; unit = 0 }

abbrev pub no_ace : Ace
no_ace = record { kind = AccessId; extent = Listed; id = replicate id_size 0; count = 0; luacds = replicate max_luacds no_luacd }

abbrev pub no_token : Token
no_token = record { number = 0; unit = 0; requester = 0; lun = 0 }

abbrev pub no_proxy : ProxyLun
no_proxy = record { initiator = 0; lun = 0; token = 0 }

-- ---- one ACE
abbrev pub content_by : Extent → List Luacd → Content
content_by Listed ls = these ls
content_by Everything ls = everything

abbrev pub content_of : Ace → Content
content_of a = content_by a.extent (take a.count a.luacds)

abbrev pub ace_of : IdType → List ℕ → Content → Ace
ace_of k id (these ls) =
    record { kind = k; extent = Listed; id = id; count = length ls; luacds = pad no_luacd max_luacds ls }
ace_of k id everything =
    record { kind = k; extent = Everything; id = id; count = 0; luacds = pad no_luacd max_luacds [] }

-- ---- one enrolment: the stage is 1 enrolled, 2 pending, and any other byte not-enrolled; then the AccessID
abbrev pub enrolment_at : ℕ → List ℕ → Enrolment
enrolment_at stage id = cond (eqb stage 1) (enrolled id) (cond (eqb stage 2) (pending id) not_enrolled)

abbrev pub enrolment_in : List ℕ → Enrolment
enrolment_in bytes = enrolment_at (get_or bytes 0 0) (drop 1 bytes)

abbrev pub enrolment_bytes : Enrolment → List ℕ
enrolment_bytes not_enrolled = replicate enrolment_size 0
enrolment_bytes (enrolled id) = 1 ∷ kept AccessId id
enrolment_bytes (pending id) = 2 ∷ kept AccessId id

-- ---- the tables of lists
abbrev pub acl_of : List Ace → Acl
acl_of l = record { count = length l; items = pad no_ace max_aces l }

abbrev pub token_table : List Token → Tokens
token_table l = record { count = length l; items = pad no_token max_tokens l }

abbrev pub proxy_table : List ProxyLun → ProxyLuns
proxy_table l = record { count = length l; items = pad no_proxy max_proxies l }

abbrev pub unit_table : List ℕ → Units
unit_table l = record { count = length l; luns = pad 0 max_units l }

abbrev pub enrolment_table : List Enrolment → List ℕ
enrolment_table es = pad 0 enrolments_size (gather enrolment_bytes es)

-- nobody is enrolled
abbrev pub initiator_table : List (List ℕ) → Initiators
initiator_table ids =
    record { count = length ids; ids = pad 0 ids_size (gather (kept TransportId) ids); enrolments = enrolment_table [] }

-- ---- what a coordinator's tables hold
-- the default LUNs, by unit number
abbrev pub units_of : Coordinator → List ℕ
units_of c = take c.units.count c.units.luns

-- the TransportIDs and the enrolments, by initiator number
abbrev pub transports_of : Coordinator → List (List ℕ)
transports_of c = parts id_size c.initiators.count c.initiators.ids

abbrev pub enrolments_of : Coordinator → List Enrolment
enrolments_of c = map enrolment_in (parts enrolment_size c.initiators.count c.initiators.enrolments)

abbrev pub transport_of : Coordinator → ℕ → List ℕ
transport_of c i = get_or (transports_of c) i []

abbrev pub enrolment_of : Coordinator → ℕ → Enrolment
enrolment_of c i = get_or (enrolments_of c) i not_enrolled

abbrev pub aces_of : Coordinator → List Ace
aces_of c = take c.acl.count c.acl.items

abbrev pub tokens_of : Coordinator → List Token
tokens_of c = take c.tokens.count c.tokens.items

abbrev pub proxies_of : Coordinator → List ProxyLun
proxies_of c = take c.proxies.count c.proxies.items

-- ---- the coordinator with another table. The one record literal of a coordinator stands here
abbrev pub coordinator_of : Bool → ℕ → ℕ → Initiators → Units → Acl → Tokens → ProxyLuns → Coordinator
coordinator_of on generation key initiators units acl tokens proxies =
    record {
      enabled = on;
      generation = generation;
      key = key;
      initiators = initiators;
      units = units;
      acl = acl;
      tokens = tokens;
      proxies = proxies;
    }

abbrev pub with_switch : Coordinator → Bool → ℕ → ℕ → Coordinator
with_switch c on generation key =
    coordinator_of on generation key c.initiators c.units c.acl c.tokens c.proxies

abbrev pub with_initiators : Coordinator → Initiators → Coordinator
with_initiators c t =
    coordinator_of c.enabled c.generation c.key t c.units c.acl c.tokens c.proxies

abbrev pub with_units : Coordinator → Units → Coordinator
with_units c t =
    coordinator_of c.enabled c.generation c.key c.initiators t c.acl c.tokens c.proxies

abbrev pub with_acl : Coordinator → Acl → Coordinator
with_acl c t =
    coordinator_of c.enabled c.generation c.key c.initiators c.units t c.tokens c.proxies

abbrev pub with_token_table : Coordinator → Tokens → Coordinator
with_token_table c t =
    coordinator_of c.enabled c.generation c.key c.initiators c.units c.acl t c.proxies

abbrev pub with_proxy_table : Coordinator → ProxyLuns → Coordinator
with_proxy_table c t =
    coordinator_of c.enabled c.generation c.key c.initiators c.units c.acl c.tokens t

abbrev pub with_aces : Coordinator → List Ace → Coordinator
with_aces c l = with_acl c (acl_of l)

abbrev pub with_tokens : Coordinator → List Token → Coordinator
with_tokens c l = with_token_table c (token_table l)

abbrev pub with_proxies : Coordinator → List ProxyLun → Coordinator
with_proxies c l = with_proxy_table c (proxy_table l)

abbrev pub with_enrolments : Coordinator → List Enrolment → Coordinator
with_enrolments c es =
    with_initiators c (record { count = c.initiators.count; ids = c.initiators.ids; enrolments = enrolment_table es })
