-- How long the state in words is at most: a buffer of 32 kB holds it.
use Prim.Native.Nat.{ℕ, ◌+◌, ◌*◌, ◌≤◌}
use mathlib.Core.Path.{◌≡◌, refl}
use mathlib.Core.List.{List, [], ◌∷◌}
use mathlib.Core.Bool.{Bool, true}
use native.Mathlib.Omega.{arith}
use lib.ListN.{length, get_or, length-append, length-take}
use lib.Dec.{eqb}
use borrow.Author.Tests.{leb-true}
use Rattle.lists.specs.Lists.{below}
use Rattle.lists.specs.Order.{sort}
use Rattle.lists.specs.Bytes.{be_bytes}
use Rattle.lists.proofs.Tests.{split, both}
use Rattle.lists.proofs.Members.{all_in}
use Rattle.lists.proofs.Bytes.{bytes_length}
use Rattle.lists.proofs.Parts.{length_count}
use Rattle.lists.proofs.Order.{length_sort}
use Rattle.lists.proofs.Sums.{gather_most, gather_sort}
use Rattle.paper.specs.Identifiers.{kept}
use Rattle.paper.specs.Contents.{Content, these, everything, Enrolment, not_enrolled, enrolled, pending}
use Rattle.paper.specs.Tables.{content_of, units_of, transports_of, enrolments_of, aces_of, tokens_of, proxies_of}
use Rattle.paper.specs.Rows.{token_for}
use Rattle.paper.specs.Reports.{ace_before, luacd_before, token_before}
use Rattle.paper.specs.Standing.{listed_in, few_luacds, standing}
use Rattle.paper.proofs.Getters.{length_kept, length_transports}
use Rattle.paper.proofs.Lengths.{listed_few}
use Rattle.paper.specs.declared.state.IdType.{IdType}
use Rattle.paper.specs.declared.state.IdType.TheVariants.{AccessId, TransportId}
use Rattle.paper.specs.declared.state.Luacd.{Luacd}
use Rattle.paper.specs.declared.state.Ace.{Ace}
use Rattle.paper.specs.declared.state.Token.{Token}
use Rattle.paper.specs.declared.state.ProxyLun.{ProxyLun}
use Rattle.paper.specs.declared.state.Coordinator.{Coordinator}
use Rattle.report.proofs.PageSizes.{counts_of}
use Rattle.journal.specs.Texts.{comma_text}
use Rattle.journal.proofs.Told.{decimal_most, hex_length}
use Rattle.acl.specs.Words.{on_text, off_text, initiators_name, units_name, aces_name, tokens_name, proxies_name}
use Rattle.acl.specs.State.{lun_text, unit_text, initiator_text, number_text, id_text, head_text, switch_text, enrolment_text, initiator_line, initiators_text, unit_line, units_text, kind_text, between_text, luacd_text, luacds_text, content_text, ace_line, aces_text, request_text, token_line, tokens_text, proxy_before, unit_of, holder_text, proxy_line, proxies_text, acl_text, state_text}

-- ---- what lines name
lun_length : (l : ℕ) → length (lun_text l) ≡ 6
unfolding lun_text
lun_length l = refl

unit_most : (u : ℕ) → length (unit_text u) ≤ 25
unfolding unit_text
unit_most u = simp length-append (omega (arith, decimal_most u))

initiator_most : (i : ℕ) → length (initiator_text i) ≤ 30
unfolding initiator_text
initiator_most i = simp length-append (omega (arith, decimal_most i))

number_length : (n : ℕ) → length (number_text n) ≡ 16
unfolding number_text
number_length n = omega (arith, hex_length (be_bytes 8 n), bytes_length 8 n)

id_length : (k : IdType) (id : List ℕ) → length (id_text k id) ≡ 48
unfolding id_text
id_length k id = omega (arith, hex_length (kept k id), length_kept k id)

head_most : (name : List ℕ) (n : ℕ) → length (head_text name n) ≤ 22 + length name
unfolding head_text
head_most name n = simp length-append (omega (arith, decimal_most n))

switch_most : (on : Bool) → length (switch_text on) ≤ 34
unfolding switch_text
switch_most on =
    simp length-append (omega (arith, both (λ l. length l ≤ 33) on {x = on_text} {y = off_text} (omega arith) (omega arith)))

-- ---- initiators and units
enrolment_most : (e : Enrolment) → length (enrolment_text e) ≤ 72
unfolding enrolment_text
enrolment_most not_enrolled = omega arith
enrolment_most (enrolled id) = simp length-append (omega (arith, id_length AccessId id))
enrolment_most (pending id) = simp length-append (omega (arith, id_length AccessId id))

initiator_line_lem : (i : ℕ) (id : List ℕ) (e : Enrolment) → length (initiator_line i id e) ≤ 157
unfolding initiator_line
initiator_line_lem i id e =
    simp length-append (omega (arith, decimal_most i, id_length TransportId id, enrolment_most e))

initiators_most : (ids : List (List ℕ)) (es : List Enrolment) → length ids ≤ 16 → length (initiators_text ids es) ≤ 2546
unfolding initiators_text
initiators_most ids es h =
    let lines =
    gather_most (λ i. initiator_line i (get_or ids i []) (get_or es i not_enrolled)) 157 (below (length ids)) (λ i m. initiator_line_lem i (get_or ids i []) (get_or es i not_enrolled)) in
    simp length-append (omega (arith, head_most initiators_name (length ids), lines, length_count 0 (length ids)))

unit_line_lem : (u l : ℕ) → length (unit_line u l) ≤ 37
unfolding unit_line
unit_line_lem u l = simp length-append (omega (arith, decimal_most u, lun_length l))

units_most : (luns : List ℕ) → length luns ≤ 32 → length (units_text luns) ≤ 1218
unfolding units_text
units_most luns h =
    let lines =
    gather_most (λ u. unit_line u (get_or luns u 0)) 37 (below (length luns)) (λ u m. unit_line_lem u (get_or luns u 0)) in
    simp length-append (omega (arith, head_most units_name (length luns), lines, length_count 0 (length luns)))

-- ---- ACEs
luacd_most : (k : ℕ) (p : Luacd) → length (luacd_text k p) ≤ 34
unfolding luacd_text
luacd_most k p =
    let comma : length (between_text k) ≤ 2 = both (λ l. length l ≤ 2) (eqb k 0) {x = []} {y = comma_text} (omega arith) (omega arith) in
    simp length-append (omega (arith, comma, lun_length p.lun, unit_most p.unit))

luacds_most : (k : ℕ) (l : List Luacd) → length (luacds_text k l) ≤ 34 * length l
unfolding luacds_text
luacds_most k [] = omega arith
luacds_most k (p ∷ l) = simp length-append (omega (arith, luacd_most k p, luacds_most (k + 1) l))

content_most : (content : Content) → length (listed_in content) ≤ 16 → length (content_text content) ≤ 544
unfolding content_text
content_most (these ls) h = omega (arith, luacds_most 0 (sort luacd_before ls), length_sort luacd_before ls)
content_most everything h = omega arith

kind_most : (k : IdType) → length (kind_text k) ≤ 12
kind_most AccessId = omega arith
kind_most TransportId = omega arith

ace_line_lem : (a : Ace) → a.count ≤ 16 → length (ace_line a) ≤ 607
unfolding ace_line
ace_line_lem a h =
    let content = content_most (content_of a) (listed_few a.extent a.count a.luacds h) in
    simp length-append (omega (arith, kind_most a.kind, id_length a.kind a.id, content))

-- ---- tokens and proxy LUNs
token_line_lem : (t : Token) → length (token_line t) ≤ 99
unfolding token_line request_text
token_line_lem t =
    simp length-append (omega (arith, number_length t.number, unit_most t.unit, initiator_most t.requester, lun_length t.lun))

proxy_line_lem : (ts : List Token) (p : ProxyLun) → length (proxy_line ts p) ≤ 90
unfolding proxy_line holder_text
proxy_line_lem ts p =
    simp length-append (omega (arith, initiator_most p.initiator, lun_length p.lun, unit_most (unit_of (token_for ts p.token)), number_length p.token))

-- ---- the parts whose entries are in order, and all of it
module _ (c : Coordinator) (h : standing c ≡ true) where
  aces_most : length (aces_text (aces_of c)) ≤ 19458
  unfolding aces_text
  aces_most =
      let n = counts_of c h in
      let lines =
      gather_most ace_line 607 (aces_of c) (λ a m. ace_line_lem a (leb-true _ _ (all_in few_luacds n.luacds_few m))) in
      simp length-append (omega (arith, head_most aces_name (length (aces_of c)), gather_sort ace_line ace_before (aces_of c), lines, n.few_aces, length-take c.acl.count c.acl.items))

  tokens_most : length (tokens_text (tokens_of c)) ≤ 3202
  unfolding tokens_text
  tokens_most =
      let lines = gather_most token_line 99 (tokens_of c) (λ t m. token_line_lem t) in
      simp length-append (omega (arith, head_most tokens_name (length (tokens_of c)), gather_sort token_line token_before (tokens_of c), lines, (counts_of c h).few_tokens, length-take c.tokens.count c.tokens.items))

  proxies_most : length (proxies_text (tokens_of c) (proxies_of c)) ≤ 2914
  unfolding proxies_text
  proxies_most =
      let line = proxy_line (tokens_of c) in
      let lines = gather_most line 90 (proxies_of c) (λ p m. proxy_line_lem (tokens_of c) p) in
      simp length-append (omega (arith, head_most proxies_name (length (proxies_of c)), gather_sort line proxy_before (proxies_of c), lines, (counts_of c h).few_proxies, length-take c.proxies.count c.proxies.items))

  acl_most : length (acl_text c) ≤ 32768
  unfolding acl_text
  acl_most =
      let n = counts_of c h in
      let initiators = initiators_most (transports_of c) (enrolments_of c) (omega (arith, n.few_initiators, length_transports c)) in
      let units = units_most (units_of c) (omega (arith, n.few_units, length-take c.units.count c.units.luns)) in
      simp length-append (omega (arith, switch_most c.enabled, initiators, units, aces_most, tokens_most, proxies_most))

pub state_most : (c : Coordinator) → length (state_text c) ≤ 32768
unfolding state_text
state_most c = split (standing c) (λ h. rw h (acl_most c h)) (λ h. rw h (omega arith))
