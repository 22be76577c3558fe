-- Getters after setters: what was put into a table is what is read from it.
use Prim.Native.Nat.{ℕ, suc}
use mathlib.Core.Path.{◌≡◌, refl, ap}
use mathlib.Core.List.{List, map}
use native.Mathlib.Omega.{arith}
use lib.ListN.{length, take, length-take, length-map}
use Rattle.lists.proofs.Tables.{take_pad, length_pad}
use Rattle.lists.proofs.Members.{map_map}
use Rattle.lists.proofs.Parts.{length_parts, parts_gather}
use Rattle.paper.specs.Sizes.{max_aces, max_tokens, max_proxies, max_units, max_luacds, id_size, enrolment_size}
use Rattle.paper.specs.Identifiers.{kept}
use Rattle.paper.specs.Setup.{Setup}
use Rattle.paper.specs.Contents.{Content, these, everything, Enrolment, not_enrolled, enrolled, pending}
use Rattle.paper.specs.Tables.{no_ace, no_token, no_proxy, no_luacd, ace_of, content_of, enrolment_in, enrolment_bytes, aces_of, tokens_of, proxies_of, units_of, transports_of, enrolments_of, with_aces, with_tokens, with_proxies, with_enrolments}
use Rattle.paper.specs.Fresh.{fresh}
use Rattle.paper.specs.declared.state.IdType.{IdType}
use Rattle.paper.specs.declared.state.IdType.TheVariants.{AccessId, TransportId}
use Rattle.paper.specs.declared.state.Ace.{Ace}
use Rattle.paper.specs.declared.state.Token.{Token}
use Rattle.paper.specs.declared.state.ProxyLun.{ProxyLun}
use Rattle.paper.specs.declared.state.Coordinator.{Coordinator}

-- ---- counted tables
pub aces_with : (c : Coordinator) (l : List Ace) → aces_of (with_aces c l) ≡ l
aces_with c l = take_pad no_ace max_aces l

pub tokens_with : (c : Coordinator) (l : List Token) → tokens_of (with_tokens c l) ≡ l
tokens_with c l = take_pad no_token max_tokens l

pub proxies_with : (c : Coordinator) (l : List ProxyLun) → proxies_of (with_proxies c l) ≡ l
proxies_with c l = take_pad no_proxy max_proxies l

pub content_of_lem : (k : IdType) (id : List ℕ) (content : Content) → content_of (ace_of k id content) ≡ content
content_of_lem k id (these ls) = ap these (take_pad no_luacd max_luacds ls)
content_of_lem k id everything = refl

-- ---- identifiers and enrolments, kept in a fixed number of bytes
pub length_kept : (k : IdType) (id : List ℕ) → length (kept k id) ≡ id_size
length_kept AccessId id = length_pad 0 id_size (take 16 id) (simp length-take (omega arith))
length_kept TransportId id = length_pad 0 id_size (take id_size id) (simp length-take (omega arith))

pub length_enrolment : (e : Enrolment) → length (enrolment_bytes e) ≡ enrolment_size
length_enrolment not_enrolled = refl
length_enrolment (enrolled id) = ap suc (length_kept AccessId id)
length_enrolment (pending id) = ap suc (length_kept AccessId id)

-- an enrolment with its AccessID as it is kept
abbrev pub settled : Enrolment → Enrolment
settled not_enrolled = not_enrolled
settled (enrolled id) = enrolled (kept AccessId id)
settled (pending id) = pending (kept AccessId id)

enrolment_in_lem : (e : Enrolment) → enrolment_in (enrolment_bytes e) ≡ settled e
enrolment_in_lem not_enrolled = refl
enrolment_in_lem (enrolled id) = refl
enrolment_in_lem (pending id) = refl

pub enrolments_with : (c : Coordinator) (es : List Enrolment) → length es ≡ c.initiators.count → enrolments_of (with_enrolments c es) ≡ map settled es
enrolments_with c es e =
    rw (← e, parts_gather enrolment_bytes enrolment_size es _ (λ x h. length_enrolment x))
    (map_map enrolment_bytes enrolment_in settled es (λ x m. enrolment_in_lem x))

pub length_enrolments : (c : Coordinator) → length (enrolments_of c) ≡ c.initiators.count
length_enrolments c = simp (length-map, length_parts)

pub length_transports : (c : Coordinator) → length (transports_of c) ≡ c.initiators.count
length_transports c = length_parts id_size c.initiators.count c.initiators.ids

-- ---- a fresh coordinator
pub fresh_units : (w : Setup) → units_of (fresh w) ≡ w.luns
unfolding fresh
fresh_units w = take_pad 0 max_units w.luns

pub fresh_transports : (w : Setup) → transports_of (fresh w) ≡ map (kept TransportId) w.transports
unfolding fresh
fresh_transports w = parts_gather (kept TransportId) id_size w.transports _ (λ x h. length_kept TransportId x)
