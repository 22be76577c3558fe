-- The end state of MANAGE ACL, one table at a time. That it is what the effects make of the coordinator, one after the other, is a law (proofs/EndState).
use Rattle.std.specs.Prelude.{ℕ, List, [], ◌∷◌, ◌++◌, map, Bool, true, false, cond, not, ◌&&◌, ◌||◌, length, take, eqb, ltb}
use Rattle.lists.specs.Lists.{any, keep, parts, gather}
use Rattle.paper.specs.Sizes.{max_aces, id_size, enrolment_size}
use Rattle.paper.specs.Layouts.{descriptor_size}
use Rattle.paper.specs.Identifiers.{same_id}
use Rattle.paper.specs.Contents.{Content, these, everything, holds_nothing, Enrolment}
use Rattle.paper.specs.Tables.{ace_of, enrolment_in, acl_of, token_table, proxy_table, enrolment_table, coordinator_of, units_of}
use Rattle.paper.specs.Effects.{Ending, listed, all_tokens, suspended, ended_under, outlives}
use Rattle.paper.specs.Applied.{kept_by}
use Rattle.paper.specs.Pages.{new_key_in, flush_in, ace_pages, page_code, nocncl_of, page_type, page_id, kept_id, descriptor_run, page_luacds, is_grant, tokens_in}
use Rattle.paper.specs.Commands.{many_luacds}
use Rattle.paper.specs.declared.state.IdType.{IdType}
use Rattle.paper.specs.declared.state.IdType.TheVariants.{AccessId, TransportId}
use Rattle.paper.specs.declared.state.Ace.{Ace}
use Rattle.paper.specs.Tables.{Acl}
use Rattle.paper.specs.declared.state.Initiators.{Initiators}
use Rattle.paper.specs.declared.state.Coordinator.{Coordinator}
use Rattle.manage.specs.declared.live.Live.{Live}

-- what is left of a state when each element of a list has changed it, in order
unfoldable pub in_order : {A S : Type 0} → (A → S → S) → List A → S → S
in_order f [] s = s
in_order f (x ∷ l) s = in_order f l (f x s)

-- ---- enrolments
abbrev pub enrolled_by : (Enrolment → Enrolment) → Initiators → Initiators
enrolled_by f t =
    record { count = t.count; ids = t.ids; enrolments = enrolment_table (map f (map enrolment_in (parts enrolment_size t.count t.enrolments))) }

-- "with no LUACD it removes it (H)": a page 00h without descriptors
unfoldable pub removes : List ℕ → Bool
removes page = eqb (page_code page) 0x00 && ltb (length (descriptor_run id_size page)) descriptor_size

-- "A page that removes an AccessID's ACE, or replaces it with NOCNCL 0, ends every enrolment under it."
abbrev pub ends_as : IdType → Bool → Bool → Bool
ends_as TransportId gone nocncl = false
ends_as AccessId gone nocncl = gone || not nocncl

unfoldable pub ends_under : List ℕ → Bool
ends_under page = is_grant page && ends_as (page_type page) (removes page) (nocncl_of page)

unfoldable pub initiators_by : List ℕ → Initiators → Initiators
initiators_by page t = cond (ends_under page) (enrolled_by (ended_under (kept_id page)) t) t

-- "FLUSH turns every enrolled initiator pending, and pages apply in order"
unfoldable pub initiators_after : List ℕ → Initiators → Initiators
initiators_after list t =
    in_order initiators_by (ace_pages list) (cond (flush_in list) (enrolled_by suspended t) t)

-- ---- tokens and proxy LUNs
abbrev pub left_by : Ending → Live → Live
left_by e x =
    record { tokens = token_table (keep (outlives e) (take x.tokens.count x.tokens.items)); proxies = proxy_table (keep (kept_by e (take x.tokens.count x.tokens.items)) (take x.proxies.count x.proxies.items)) }

unfoldable pub live_by : List ℕ → Live → Live
live_by page x =
    cond (eqb (page_code page) 0x02) (left_by (listed (tokens_in page)) x)
    (cond (eqb (page_code page) 0x03) (left_by all_tokens x)
    x)

unfoldable pub live_after : List ℕ → Live → Live
live_after list x = in_order live_by (ace_pages list) x

abbrev pub live_of : Coordinator → Live
live_of c = record { tokens = c.tokens; proxies = c.proxies }

-- ---- ACEs: those that no page names, and then those that the pages put, in their order
-- what a grant page gives its identifier
abbrev pub grant_of : List ℕ → List ℕ → Content
grant_of luns page = cond (eqb (page_code page) 0x00) (these (page_luacds luns page)) everything

-- a grant page for an identifier
unfoldable pub names_id : IdType → List ℕ → List ℕ → Bool
names_id k id page = is_grant page && same_id k id (page_type page) (page_id id_size page)

abbrev pub unnamed : List (List ℕ) → Ace → Bool
unnamed pages a = not (any (names_id a.kind a.id) pages)

-- the ACE that a page puts
unfoldable pub new_aces : List ℕ → List ℕ → List Ace
new_aces luns page =
    cond (is_grant page && not (holds_nothing (grant_of luns page)))
    (ace_of (page_type page) (kept_id page) (grant_of luns page) ∷ [])
    []

unfoldable pub aces_after : List ℕ → List (List ℕ) → List Ace → List Ace
aces_after luns pages aces = keep (unnamed pages) aces ++ gather (new_aces luns) pages

-- without a grant page the ACL is as it was, to the last byte
unfoldable pub acl_after : List ℕ → List (List ℕ) → Acl → Acl
acl_after luns pages acl =
    cond (any is_grant pages) (acl_of (aces_after luns pages (take acl.count acl.items))) acl

-- "over 32 ACEs or over 16 LUACDs in one"
unfoldable pub crowded : List Ace → Bool
crowded aces = ltb max_aces (length aces) || any many_luacds aces

-- ---- all of it
-- the grant pages applied, tokens and proxy LUNs as they were
unfoldable pub granted_with : Coordinator → List ℕ → Acl → Coordinator
granted_with c list acl =
    coordinator_of true 1 (new_key_in list) (initiators_after list c.initiators) c.units acl c.tokens c.proxies

-- and then pages 02h and 03h
unfoldable pub revoked_by : List ℕ → Coordinator → Coordinator
revoked_by list c =
    coordinator_of c.enabled c.generation c.key c.initiators c.units c.acl
    (live_after list (live_of c)).tokens (live_after list (live_of c)).proxies

abbrev pub end_with : Coordinator → List ℕ → Acl → Coordinator
end_with c list acl = revoked_by list (granted_with c list acl)

abbrev pub end_state : Coordinator → List ℕ → Coordinator
end_state c list = end_with c list (acl_after (units_of c) (ace_pages list) c.acl)
