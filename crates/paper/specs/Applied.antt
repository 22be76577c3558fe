-- What each effect does to the tables.
use Rattle.std.specs.Prelude.{ℕ, List, [], ◌∷◌, ◌++◌, map, Bool, true, false, cond, not, ◌&&◌, set, eqb}
use Rattle.std.specs.Prelude.{Option, Some, None}
use Rattle.lists.specs.Lists.{keep}
use Rattle.wire.specs.Lun.{lun_of, head_of}
use Rattle.paper.specs.Grounds.{is_ta}
use Rattle.paper.specs.Contents.{Content, holds_nothing, not_enrolled, enrolled}
use Rattle.paper.specs.Tables.{ace_of, enrolments_of, enrolment_of, aces_of, tokens_of, proxies_of, with_switch, with_aces, with_tokens, with_proxies, with_enrolments}
use Rattle.paper.specs.Rows.{is_for, token_for, rows_of, row_with}
use Rattle.paper.specs.Effects.{Switching, turned_on, turned_off, Enrolling, flushed, joined, left, link_event, Ending, Tokening, issued, ended, Proxying, assigned, released, Effect, switched, keyed, granted, enrolling, tokening, proxying, suspended, ended_under, ends_enrolments, ends, outlives}
use Rattle.paper.specs.declared.state.IdType.{IdType}
use Rattle.paper.specs.declared.state.Ace.{Ace}
use Rattle.paper.specs.declared.state.Token.{Token}
use Rattle.paper.specs.declared.state.ProxyLun.{ProxyLun}
use Rattle.paper.specs.declared.state.Row.{Row}
use Rattle.paper.specs.declared.state.Coordinator.{Coordinator}

-- ---- the switch
-- "empties all tables; key and DLgeneration become 0"
abbrev pub emptied : Coordinator → Coordinator
emptied c = with_enrolments (with_proxies (with_tokens (with_aces (with_switch c false 0 0) []) []) []) []

abbrev pub after_switching : Coordinator → Switching → Coordinator
after_switching c turned_on = with_switch c true 1 c.key
after_switching c turned_off = emptied c

-- ---- ACEs
abbrev pub other_ace : IdType → List ℕ → Ace → Bool
other_ace k id a = not (is_for k id a)

-- "Page 00h replaces the ACE by the page's LUACDs; with no LUACD it removes it (H)."
unfoldable pub put_ace : IdType → List ℕ → Content → List Ace → List Ace
put_ace k id content aces =
    keep (other_ace k id) aces ++ cond (holds_nothing content) [] (ace_of k id content ∷ [])

-- the ACE is put; where the page ends the enrolments under its AccessID, they go
abbrev pub after_grant : Coordinator → IdType → List ℕ → Content → Bool → Coordinator
after_grant c k id content true =
    with_enrolments (with_aces c (put_ace k id content (aces_of c))) (map (ended_under id) (enrolments_of c))
after_grant c k id content false = with_aces c (put_ace k id content (aces_of c))

-- ---- enrolments
abbrev pub after_enrolling : Coordinator → Enrolling → Coordinator
after_enrolling c flushed = with_enrolments c (map suspended (enrolments_of c))
after_enrolling c (joined i id) = with_enrolments c (set (enrolments_of c) i (enrolled id))
after_enrolling c (left i) = with_enrolments c (set (enrolments_of c) i not_enrolled)
after_enrolling c (link_event i) = with_enrolments c (set (enrolments_of c) i (suspended (enrolment_of c i)))

-- ---- tokens
-- the unit that a LUN opens for an initiator by a T or A row. REQUEST PROXY TOKEN has tested that there is such a row; a coordinator that has not would open unit 0, and the history does not know that token
abbrev pub unit_in : Option Row → ℕ
unit_in None = 0
unit_in (Some r) = r.unit

abbrev pub issued_token : Coordinator → ℕ → ℕ → ℕ → Token
issued_token c i l n =
    record { number = n; unit = unit_in (row_with is_ta l (rows_of c i)); requester = i; lun = head_of l }

-- "A token's end ends its proxy LUNs for everybody."
abbrev pub ends_some : Ending → Option Token → Bool
ends_some e None = false
ends_some e (Some t) = ends e t

abbrev pub rests_on_ended : Ending → List Token → ProxyLun → Bool
rests_on_ended e ts p = ends_some e (token_for ts p.token)

abbrev pub kept_by : Ending → List Token → ProxyLun → Bool
kept_by e ts p = not (rests_on_ended e ts p)

abbrev pub after_tokening : Coordinator → Tokening → Coordinator
after_tokening c (issued i l n) = with_tokens c (tokens_of c ++ (issued_token c i l n ∷ []))
after_tokening c (ended e) =
    with_proxies (with_tokens c (keep (outlives e) (tokens_of c))) (keep (kept_by e (tokens_of c)) (proxies_of c))

-- ---- proxy LUNs
abbrev pub is_proxy : ℕ → ℕ → ProxyLun → Bool
is_proxy i l p = eqb p.initiator i && eqb (lun_of p.lun) l

abbrev pub other_proxy : ℕ → ℕ → ProxyLun → Bool
other_proxy i l p = not (is_proxy i l p)

abbrev pub after_proxying : Coordinator → Proxying → Coordinator
after_proxying c (assigned i l n) =
    with_proxies c (proxies_of c ++ (record { initiator = i; lun = head_of l; token = n } ∷ []))
after_proxying c (released i l) = with_proxies c (keep (other_proxy i l) (proxies_of c))

-- ---- the coordinator after an effect, and after one after the other
unfoldable pub applied : Coordinator → Effect → Coordinator
applied c (switched s) = after_switching c s
applied c (keyed k) = with_switch c c.enabled c.generation k
applied c (granted k id content nocncl) = after_grant c k id content (ends_enrolments k content nocncl)
applied c (enrolling x) = after_enrolling c x
applied c (tokening x) = after_tokening c x
applied c (proxying x) = after_proxying c x

unfoldable pub applied_all : Coordinator → List Effect → Coordinator
applied_all c [] = c
applied_all c (e ∷ es) = applied_all (applied c e) es
