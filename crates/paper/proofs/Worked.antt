-- Worked examples of what the readings of the history share with the tables, which no theorem about both can test, and of the readings themselves.
use Prim.Native.Nat.{ℕ, ◌+◌}
use mathlib.Core.Path.{◌≡◌, refl}
use mathlib.Core.List.{List, [], ◌∷◌, ◌++◌}
use Rattle.std.specs.Prelude.{Some, None}
use mathlib.Core.Bool.{true, false}
use native.Mathlib.Omega.{arith}
use lib.ListN.{replicate}
use Rattle.lists.specs.Lists.{here, place_of, parts, nth}
use Rattle.lists.specs.Bytes.{be, be_bytes, same_bytes}
use Rattle.lists.specs.Pages.{page_size, pages_up_to, pages_of}
use Rattle.wire.specs.Lun.{lun_of}
use Rattle.paper.specs.Identifiers.{same_id, kept}
use Rattle.paper.specs.Contents.{these, everything, held, numbered, not_enrolled, enrolled, pending}
use Rattle.paper.specs.Orders.{request_token, assign, release, no_action, exactly, read_manage, read_cancel, read_out, wrong, order, revoke_all}
use Rattle.paper.specs.Effects.{turned_on, turned_off, flushed, joined, left, link_event, own, named, listed, all_tokens, issued, ended, assigned, released, switched, keyed, granted, enrolling, tokening, proxying, suspended, ended_under, ends_enrolments, ends}
use Rattle.paper.specs.Pages.{ace_pages, descriptor_in, descriptors_in, not_overruled, page_luacds, tokens_in, page_effects, manage_effects}
use Rattle.paper.specs.InForce.{in_force}
use Rattle.paper.specs.Readings.{History, is_on, last_page, enrolment, place_named, token, live_tokens, issued_less_ended, usable, proxy_token, OpensTo, OneUnit}
use Rattle.paper.proofs.Sending.{transport, access, luacd, grant, manage}
use Rattle.paper.proofs.Wrong.{three}
use Rattle.paper.specs.declared.state.IdType.TheVariants.{AccessId, TransportId}
use Rattle.paper.specs.declared.state.Luacd.{Luacd}
use Rattle.paper.specs.declared.state.Token.{Token}
use Rattle.paper.specs.declared.state.Ground.TheVariants.{GroundA, GroundT}
use Rattle.paper.specs.declared.answers.Condition.TheVariants.{InvalidField, WrongLength}

abbrev at : ℕ → ℕ → Luacd
at l u = record { lun = l; unit = u }

-- an AccessID that differs from `access` in its reserved bytes alone
abbrev other_tail : List ℕ
other_tail = replicate 16 9 ++ replicate 8 1

-- ---- identifiers
-- "all 24 are compared"; "the first 16 are compared"; a type of its own
pub compared : (same_id AccessId access AccessId other_tail ≡ true) × (same_id TransportId access TransportId other_tail ≡ false) × (same_id AccessId access TransportId access ≡ false)
unfolding same_id same_bytes
compared = (refl, refl, refl)

-- "the rest is reserved and reported as zero"
pub kept_so : (kept AccessId access ≡ replicate 16 9 ++ replicate 8 0) × (kept TransportId access ≡ access)
kept_so = (refl, refl)

-- ---- what an ACE holds: "all units, each at its default LUN"
pub held_so : (held (5 ∷ (6 ∷ [])) everything ≡ at 5 0 ∷ (at 6 1 ∷ [])) × (held (5 ∷ []) (these (at 1 0 ∷ [])) ≡ at 1 0 ∷ [])
unfolding numbered
held_so = (refl, refl)

-- ---- which tokens end: number 7, got by initiator 0 naming LUN 3
abbrev seven : Token
seven = record { number = 7; unit = 0; requester = 0; lun = 3 }

-- "the caller's own token"
pub own_ends : (ends (own 0 7) seven ≡ true) × (ends (own 1 7) seven ≡ false) × (ends (own 0 8) seven ≡ false)
own_ends = (refl, refl, refl)

-- "all tokens the caller got by naming that LUN": all eight bytes of it
pub named_ends : (ends (named 0 (lun_of 3)) seven ≡ true) × (ends (named 0 (lun_of 3 + 1)) seven ≡ false) × (ends (named 1 (lun_of 3)) seven ≡ false)
named_ends = (refl, refl, refl)

-- "revokes the tokens it lists", whosever they are; "revokes all"
pub listed_ends : (ends (listed (8 ∷ (7 ∷ []))) seven ≡ true) × (ends (listed (8 ∷ [])) seven ≡ false) × (ends all_tokens seven ≡ true)
listed_ends = (refl, refl, refl)

-- ---- enrolments
-- from enrolled to pending, and nothing else
pub suspended_so : (suspended (enrolled access) ≡ pending access) × (suspended (pending access) ≡ pending access) × (suspended not_enrolled ≡ not_enrolled)
suspended_so = (refl, refl, refl)

-- "every enrolment under it", pending too, whatever its reserved bytes
pub under_so : (ended_under other_tail (enrolled access) ≡ not_enrolled) × (ended_under other_tail (pending access) ≡ not_enrolled) × (ended_under transport (enrolled access) ≡ enrolled access)
unfolding same_id same_bytes
under_so = (refl, refl, refl)

-- a removal ends them with NOCNCL 1 too, a replacement with NOCNCL 0 alone, a TransportID's page never
pub page_ends_lem : (ends_enrolments AccessId (these []) true ≡ true) × (ends_enrolments AccessId everything true ≡ false) × (ends_enrolments AccessId everything false ≡ true) × (ends_enrolments TransportId (these []) false ≡ false)
page_ends_lem = (refl, refl, refl, refl)

-- ---- from bytes to effects
-- 08h takes 8 bytes or none; OUT 04h is not supported
pub read_so : (read_out 0x08 (be_bytes 8 (lun_of 3)) ≡ order (revoke_all (lun_of 3))) × (read_out 0x08 [] ≡ order no_action) × (read_out 0x08 (0 ∷ []) ≡ wrong WrongLength) × (read_out 0x04 [] ≡ wrong InvalidField)
unfolding read_out exactly read_manage read_cancel be be_bytes
read_so = (refl, refl, refl, refl)

-- "every other OUT but MANAGE ACL is GOOD, no action (H)"; "IN 04h is GOOD with 0 bytes"
pub off_so : (in_force false (release 0) ≡ no_action) × (in_force false (request_token 0) ≡ no_action) × (in_force false (assign 1 0) ≡ assign 1 0) × (in_force true (release 0) ≡ release 0)
unfolding in_force
off_so = (refl, refl, refl, refl)

-- pages 00h, 01h, 02h and 03h, in their order
pub pages_so : manage_effects (5 ∷ []) true (manage 1 (grant 1 transport (luacd 1 0 ∷ []) ∷ ((0x01 ∷ (0 ∷ (0 ∷ (28 ∷ (0x80 ∷ (0 ∷ (0 ∷ (24 ∷ access)))))))) ∷ ((0x02 ∷ (0 ∷ (0 ∷ (8 ∷ be_bytes 8 7)))) ∷ ((0x03 ∷ (0 ∷ (0 ∷ (0 ∷ [])))) ∷ []))))) ≡ keyed 0 ∷ (granted TransportId transport (these (at 1 0 ∷ [])) false ∷ (granted AccessId (replicate 16 9 ++ replicate 8 0) everything true ∷ (tokening (ended (listed (7 ∷ []))) ∷ (tokening (ended all_tokens) ∷ []))))
unfolding manage_effects page_effects ace_pages page_size pages_of pages_up_to page_luacds not_overruled descriptors_in descriptor_in tokens_in be be_bytes parts place_of
pages_so = refl

-- "access controls are on", where they were off
pub on_so : manage_effects (5 ∷ []) false (manage 0 []) ≡ keyed 0 ∷ (switched turned_on ∷ [])
unfolding manage_effects ace_pages pages_of pages_up_to be be_bytes
on_so = refl

-- ---- readings of a history, newest first
-- T has LUN 1 to unit 0
abbrev begun : History
begun = granted TransportId transport (these (at 1 0 ∷ [])) false ∷ (switched turned_on ∷ [])

-- "since access controls were last turned on": neither a page nor an enrolment nor a token reaches over it
abbrev again : History
again = switched turned_on ∷ (switched turned_off ∷ (tokening (issued 0 (lun_of 1) 7) ∷ (enrolling (joined 0 access) ∷ begun)))

pub since_on : (is_on again ≡ true) × (last_page again TransportId transport ≡ None) × (enrolment again 0 ≡ not_enrolled) × (token three again 7 ≡ None)
unfolding is_on last_page enrolment token
since_on = (refl, refl, refl, refl)

-- the last page for an identifier; an AccessID's page is none for a TransportID
pub last_page_lem : (last_page (granted TransportId transport everything false ∷ begun) TransportId transport ≡ Some everything) × (last_page begun AccessId transport ≡ None)
unfolding last_page same_id same_bytes
last_page_lem = (refl, refl)

-- FLUSH, a link event, CANCEL, each for its initiator
pub enrolled_so : (enrolment (enrolling flushed ∷ (enrolling (joined 0 access) ∷ begun)) 0 ≡ pending access) × (enrolment (enrolling (link_event 1) ∷ (enrolling (joined 0 access) ∷ begun)) 0 ≡ enrolled access) × (enrolment (enrolling (left 0) ∷ (enrolling (joined 0 access) ∷ begun)) 0 ≡ not_enrolled)
unfolding enrolment
enrolled_so = (refl, refl, refl)

-- a token for the unit that the LUN named opens. By naming a LUN that opens nothing, or of an initiator that is not there, none is issued
abbrev got : History
got = tokening (issued 0 (lun_of 1) 7) ∷ begun

pub token_so : (token three got 7 ≡ Some (record { number = 7; unit = 0; requester = 0; lun = 1 })) × (token three (tokening (issued 0 (lun_of 2) 7) ∷ begun) 7 ≡ None) × (token three (tokening (issued 1 (lun_of 1) 7) ∷ begun) 7 ≡ None)
unfolding token place_named last_page enrolment nth same_id same_bytes
token_so = (refl, refl, refl)

-- "tokens issued less tokens ended": two issued, one ended; one issued by naming nothing counts as none
pub live_so : (issued_less_ended three (tokening (ended (own 0 7)) ∷ (tokening (issued 0 (lun_of 1) 8) ∷ got)) ≡ 1) × (issued_less_ended three (tokening (issued 0 (lun_of 2) 9) ∷ got) ≡ 1)
unfolding live_tokens place_named last_page enrolment nth same_id same_bytes
live_so = (refl, refl)

-- "a usable number"
pub usable_so : (usable three got 0 ≡ false) × (usable three got 7 ≡ false) × (usable three got 8 ≡ true) × (usable three (tokening (ended all_tokens) ∷ got) 7 ≡ true)
unfolding token place_named last_page enrolment nth same_id same_bytes
usable_so = (refl, refl, refl, refl)

-- "Each issue is a new token, even with a number used before.": a proxy LUN does not come back with its number; nor does another initiator's release end it
abbrev proxied : History
proxied = proxying (assigned 0 (lun_of 3) 7) ∷ got

pub proxy_so : (proxy_token three proxied 0 (lun_of 3) ≡ Some (record { number = 7; unit = 0; requester = 0; lun = 1 })) × (proxy_token three (tokening (issued 0 (lun_of 1) 7) ∷ (tokening (ended (own 0 7)) ∷ proxied)) 0 (lun_of 3) ≡ None) × (proxy_token three (proxying (released 0 (lun_of 3)) ∷ proxied) 0 (lun_of 3) ≡ None) × (proxy_token three (proxying (released 1 (lun_of 3)) ∷ proxied) 0 (lun_of 3) ≡ Some (record { number = 7; unit = 0; requester = 0; lun = 1 }))
unfolding proxy_token token place_named last_page enrolment nth same_id same_bytes
proxy_so = (refl, refl, refl, refl)

-- ---- "No LUN opens two units for one initiator" says something: T gives LUN 1 to unit 0, and A gives it to unit 1
abbrev two : History
two = enrolling (joined 0 access) ∷ (granted AccessId access (these (at 1 1 ∷ [])) false ∷ begun)

by_t_lem : OpensTo three two 0 1 0
unfolding is_on last_page nth same_id same_bytes
by_t_lem = record { ground = GroundT; opens = refl; stands = record { initiator = omega arith; lun = omega arith; unit = omega arith; ground = (refl, here refl) } }

by_a : OpensTo three two 0 1 1
unfolding is_on last_page enrolment same_id same_bytes
by_a = record { ground = GroundA; opens = refl; stands = record { initiator = omega arith; lun = omega arith; unit = omega arith; ground = (refl, here refl) } }

pub two_units : OneUnit three two → ⊥
two_units one = let z = one 0 1 0 1 by_t_lem by_a in omega arith
