-- Refusal 2: "the state handed in breaks a standing rule". One definition for each rule, in the paper's order.
use Rattle.std.specs.Prelude.{ℕ, List, [], map, Bool, true, cond, not, ◌&&◌, ◌||◌, eqb, leb, ltb}
use Rattle.lists.specs.Lists.{all, pairs, is_some}
use Rattle.wire.specs.Lun.{lun_of, lun_form}
use Rattle.paper.specs.Sizes.{max_initiators, max_units, max_aces, max_luacds, max_tokens, max_proxies}
use Rattle.paper.specs.Identifiers.{same_id, valid_transport}
use Rattle.paper.specs.Setup.{setup_rules}
use Rattle.paper.specs.Contents.{Content, these, everything, holds_nothing, Enrolment, not_enrolled, enrolled, pending}
use Rattle.paper.specs.Tables.{content_of, units_of, transports_of, enrolments_of, aces_of, tokens_of, proxies_of}
use Rattle.paper.specs.Rows.{ace_for, token_for, some_clash}
use Rattle.paper.specs.declared.state.IdType.{IdType}
use Rattle.paper.specs.declared.state.IdType.TheVariants.{AccessId, TransportId}
use Rattle.paper.specs.declared.state.Luacd.{Luacd}
use Rattle.paper.specs.declared.state.Ace.{Ace}
use Rattle.paper.specs.declared.state.Token.{Token}
use Rattle.paper.specs.declared.state.ProxyLun.{ProxyLun}
use Rattle.paper.specs.declared.state.Coordinator.{Coordinator}

-- "a setup rule"
unfoldable pub setup_kept : Coordinator → Bool
setup_kept c = setup_rules (transports_of c) (map lun_of (units_of c))

-- "a count over its size"
abbrev pub few_luacds : Ace → Bool
few_luacds a = leb a.count max_luacds

unfoldable pub within_sizes : Coordinator → Bool
within_sizes c =
    leb c.initiators.count max_initiators
    && (leb c.units.count max_units
    && (leb c.acl.count max_aces
    && (all few_luacds (aces_of c)
    && (leb c.tokens.count max_tokens
    && leb c.proxies.count max_proxies))))

-- "an identifier in two ACEs of its type"
abbrev pub same_ace : Ace → Ace → Bool
same_ace a b = same_id a.kind a.id b.kind b.id

unfoldable pub identifiers_once : Coordinator → Bool
identifiers_once c = not (pairs same_ace (aces_of c))

-- "a token or one initiator's proxy LUN present twice"
abbrev pub same_token : Token → Token → Bool
same_token t s = eqb t.number s.number

abbrev pub same_proxy : ProxyLun → ProxyLun → Bool
same_proxy p q = eqb p.initiator q.initiator && eqb p.lun q.lun

unfoldable pub present_once : Coordinator → Bool
present_once c = not (pairs same_token (tokens_of c)) && not (pairs same_proxy (proxies_of c))

-- "a LUN or unit twice in one ACE"
abbrev pub same_lun_or_unit : Luacd → Luacd → Bool
same_lun_or_unit p q = eqb p.lun q.lun || eqb p.unit q.unit

-- the LUACDs that an ACE lists
abbrev pub listed_in : Content → List Luacd
listed_in (these ls) = ls
listed_in everything = []

abbrev pub luacds_of : Ace → List Luacd
luacds_of a = listed_in (content_of a)

abbrev pub once_listed : Ace → Bool
once_listed a = not (pairs same_lun_or_unit (luacds_of a))

unfoldable pub luacds_once : Coordinator → Bool
luacds_once c = all once_listed (aces_of c)

-- "a list without LUACDs"
abbrev pub holds_some : Ace → Bool
holds_some a = not (holds_nothing (content_of a))

unfoldable pub lists_filled : Coordinator → Bool
lists_filled c = all holds_some (aces_of c)

-- "a malformed LUN or identifier"
abbrev pub lun_formed : ℕ → Bool
lun_formed head = lun_form (lun_of head)

abbrev pub luacd_formed : Luacd → Bool
luacd_formed p = lun_formed p.lun

abbrev pub valid_id : IdType → List ℕ → Bool
valid_id AccessId id = true
valid_id TransportId id = valid_transport id

abbrev pub ace_formed : Ace → Bool
ace_formed a = valid_id a.kind a.id && all luacd_formed (luacds_of a)

abbrev pub token_formed : Token → Bool
token_formed t = lun_formed t.lun

abbrev pub proxy_formed : ProxyLun → Bool
proxy_formed p = lun_formed p.lun

unfoldable pub well_formed : Coordinator → Bool
well_formed c = all ace_formed (aces_of c) && (all token_formed (tokens_of c) && all proxy_formed (proxies_of c))

-- "a zero token"
abbrev pub nonzero : Token → Bool
nonzero t = not (eqb t.number 0)

unfoldable pub tokens_nonzero : Coordinator → Bool
tokens_nonzero c = all nonzero (tokens_of c)

-- "a reference to an absent unit, initiator, token or enrolled AccessID"
abbrev pub unit_there : Coordinator → Luacd → Bool
unit_there c p = ltb p.unit c.units.count

abbrev pub ace_refers : Coordinator → Ace → Bool
ace_refers c a = all (unit_there c) (luacds_of a)

abbrev pub token_refers : Coordinator → Token → Bool
token_refers c t = ltb t.unit c.units.count && ltb t.requester c.initiators.count

abbrev pub proxy_refers : Coordinator → ProxyLun → Bool
proxy_refers c p = ltb p.initiator c.initiators.count && is_some (token_for (tokens_of c) p.token)

abbrev pub has_ace : Coordinator → List ℕ → Bool
has_ace c id = is_some (ace_for (aces_of c) AccessId id)

abbrev pub enrolment_refers : Coordinator → Enrolment → Bool
enrolment_refers c not_enrolled = true
enrolment_refers c (enrolled id) = has_ace c id
enrolment_refers c (pending id) = has_ace c id

unfoldable pub references_there : Coordinator → Bool
references_there c =
    all (ace_refers c) (aces_of c)
    && (all (token_refers c) (tokens_of c)
    && (all (proxy_refers c) (proxies_of c)
    && all (enrolment_refers c) (enrolments_of c)))

-- "a clash"
unfoldable pub no_clash : Coordinator → Bool
no_clash c = not (some_clash c)

-- "DLgeneration not 0 disabled or 1 enabled"
unfoldable pub generation_right : Coordinator → Bool
generation_right c = eqb c.generation (cond c.enabled 1 0)

-- "an ACE, token or nonzero key while disabled"
unfoldable pub empty_while_off : Coordinator → Bool
empty_while_off c = c.enabled || (eqb c.acl.count 0 && (eqb c.tokens.count 0 && eqb c.key 0))

-- a state that breaks no standing rule
unfoldable pub standing : Coordinator → Bool
standing c =
    setup_kept c
    && (within_sizes c
    && (identifiers_once c
    && (present_once c
    && (luacds_once c
    && (lists_filled c
    && (well_formed c
    && (tokens_nonzero c
    && (references_there c
    && (no_clash c
    && (generation_right c
    && empty_while_off c))))))))))
