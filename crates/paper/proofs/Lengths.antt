-- Sizes of the two reports in closed form, and the largest of each: they bound every writer.
use Prim.Native.Nat.{ℕ, zero, suc, ◌+◌, ◌*◌, ◌≤◌}
use mathlib.Core.Path.{◌≡◌, refl, ap}
use mathlib.Core.List.{List, [], ◌∷◌, ◌++◌}
use Rattle.std.specs.Prelude.{Option, Some, None}
use mathlib.Core.Bool.{Bool, true, false, cond}
use native.Mathlib.Omega.{arith}
use lib.ListN.{length, take, length-append, length-take, length-map}
use borrow.Author.Tests.{leb-true}
use Rattle.lists.specs.Lists.{◌∈◌, keep, gather, below}
use Rattle.lists.specs.Order.{sort}
use Rattle.lists.specs.Bytes.{be_bytes}
use Rattle.lists.proofs.Members.{all_in, length_keep}
use Rattle.lists.proofs.Bytes.{bytes_length}
use Rattle.lists.proofs.Parts.{length_gather, length_count}
use Rattle.lists.proofs.Sums.{gather_over, gather_most, gather_sort, shared_out}
use Rattle.lists.proofs.Order.{length_sort}
use Rattle.paper.specs.Sizes.{id_size}
use Rattle.paper.specs.Identifiers.{kept}
use Rattle.paper.specs.Contents.{Content, these, everything, Enrolment, not_enrolled, enrolled, pending, numbered, held}
use Rattle.paper.specs.Tables.{content_by, content_of, units_of, aces_of, tokens_of, proxies_of, enrolment_of, transport_of}
use Rattle.paper.specs.Rows.{content_for, transport_rows, enrolment_rows, token_for, proxy_row, row_of_proxy, owned_by, proxy_rows, open_rows, rows_of}
use Rattle.paper.specs.Standing.{listed_in, luacds_of, few_luacds}
use Rattle.paper.specs.Reports.{luacd_bytes, identifier_bytes, granted_bytes, ace_bytes, ace_before, luacd_before, token_before, token_bytes, proxy_page, report_pages, report_bytes, reach_rows, row_bytes, reach_bytes}
use Rattle.paper.proofs.Getters.{length_kept}
use Rattle.paper.proofs.Stood.{Counted}
use Rattle.paper.proofs.GroundRows.{content_by_lem}
use Rattle.paper.specs.declared.state.IdType.{IdType}
use Rattle.paper.specs.declared.state.IdType.TheVariants.{AccessId, TransportId}
use Rattle.paper.specs.declared.state.Extent.{Extent}
use Rattle.paper.specs.declared.state.Extent.TheVariants.{Listed, Everything}
use Rattle.paper.specs.declared.state.Luacd.{Luacd}
use Rattle.paper.specs.declared.state.Ace.{Ace}
use Rattle.paper.specs.declared.state.Token.{Token}
use Rattle.paper.specs.declared.state.ProxyLun.{ProxyLun}
use Rattle.paper.specs.declared.state.Row.{Row}
use Rattle.paper.specs.declared.state.Coordinator.{Coordinator}

-- ---- REPORT ACL
pub length_luacd : (luns : List ℕ) (p : Luacd) → length (luacd_bytes luns p) ≡ 20
unfolding luacd_bytes
length_luacd luns p = simp (length-append, bytes_length)

pub length_token : (luns : List ℕ) (t : Token) → length (token_bytes luns t) ≡ 20
unfolding token_bytes
length_token luns t = simp (length-append, bytes_length)

pub length_identifier : (n : ℕ) (a : Ace) → length (identifier_bytes n a) ≡ 28
unfolding identifier_bytes
length_identifier n a =
    omega (arith, length-append (be_bytes 2 n) (kept a.kind a.id), bytes_length 2 n, length_kept a.kind a.id)

length_granted : (luns : List ℕ) (a : Ace) (content : Content) → length (granted_bytes id_size luns a content) ≡ 32 + 20 * length (listed_in content)
length_granted luns a (these ls) =
    let n = length_gather (luacd_bytes luns) 20 (sort luacd_before ls) (λ x h. length_luacd luns x) in
    simp (length-append, bytes_length, length_identifier) (omega (arith, n, length_sort luacd_before ls))
length_granted luns a everything = simp (length-append, bytes_length, length_identifier)

-- "A Granted page has 32 + 20k bytes; an ACE of everything is a Granted All page (01h) of 32."
pub length_ace : (luns : List ℕ) (a : Ace) → length (ace_bytes luns a) ≡ 32 + 20 * length (luacds_of a)
unfolding ace_bytes
length_ace luns a = length_granted luns a (content_of a)

-- the proxy page, left out if empty
abbrev pub proxy_size : ℕ → ℕ
proxy_size zero = 0
proxy_size (suc n) = 4 + 20 * suc n

pub length_proxy : (luns : List ℕ) (ts : List Token) → length (proxy_page luns ts) ≡ proxy_size (length ts)
unfolding proxy_page
length_proxy luns [] = refl
length_proxy luns (t ∷ ts) =
    let n = length_gather (token_bytes luns) 20 (sort token_before (t ∷ ts)) (λ x h. length_token luns x) in
    simp (length-append, bytes_length) (omega (arith, n, length_sort token_before (t ∷ ts)))

proxy_most : (n : ℕ) → n ≤ 32 → proxy_size n ≤ 644
proxy_most zero h = omega arith
proxy_most (suc n) h = omega arith

-- the whole report: 8 bytes, the ACEs' pages and the proxy page
pub length_report : (c : Coordinator) → length (report_bytes c) ≡ 8 + (length (gather (ace_bytes (units_of c)) (aces_of c)) + proxy_size (length (tokens_of c)))
unfolding report_bytes report_pages
length_report c =
    simp (length-append, bytes_length, gather_sort (ace_bytes (units_of c)) ace_before (aces_of c), length_proxy) (omega arith)

-- ---- the largest report
pub listed_few : (x : Extent) (n : ℕ) (ls : List Luacd) → n ≤ 16 → length (listed_in (content_by x (take n ls))) ≤ 16
listed_few Listed n ls h = simp length-take (omega arith)
listed_few Everything n ls h = omega arith

-- no ACE lists more than 16 LUACDs
few_listed : (c : Coordinator) → Counted c → (a : Ace) → a ∈ aces_of c → length (luacds_of a) ≤ 16
few_listed c h a m = listed_few a.extent a.count a.luacds (leb-true _ _ (all_in few_luacds h.luacds_few m))

-- 32 ACEs with 16 LUACDs each, and 32 tokens
pub largest_report : (c : Coordinator) → Counted c → length (report_bytes c) ≤ 11916
largest_report c h =
    let aces = gather_most (ace_bytes (units_of c)) 352 (aces_of c) (λ a m. omega (arith, few_listed c h a m, length_ace (units_of c) a)) in
    let many : length (aces_of c) ≤ 32 = omega (arith, length-take c.acl.count c.acl.items, h.few_aces) in
    let tokens : length (tokens_of c) ≤ 32 = omega (arith, length-take c.tokens.count c.tokens.items, h.few_tokens) in
    omega (arith, length_report c, aces, proxy_most (length (tokens_of c)) tokens)

-- ---- the reach list
pub length_reach : (c : Coordinator) → length (reach_bytes c) ≡ 8 + 4 * length (reach_rows c)
unfolding reach_bytes row_bytes
length_reach c =
    simp (length-append, bytes_length) (omega (arith, length_gather row_bytes 4 (reach_rows c) (λ r h. refl)))

numbered_length : (n : ℕ) (luns : List ℕ) → length (numbered n luns) ≡ length luns
unfolding numbered
numbered_length n [] = refl
numbered_length n (l ∷ ls) = ap suc (numbered_length (suc n) ls)

-- an identifier holds at most 32 units
held_few : (c : Coordinator) → Counted c → (k : IdType) (id : List ℕ) → length (held (units_of c) (content_for (aces_of c) k id)) ≤ 32
held_few c h k id =
    content_by_lem (λ x. length (held (units_of c) x) ≤ 32) (aces_of c) k id (omega arith) (λ a m. content_few (content_of a) (few_listed c h a m))
  where
    content_few : (content : Content) → length (listed_in content) ≤ 16 → length (held (units_of c) content) ≤ 32
    content_few (these ls) m = omega arith
    content_few everything m =
        omega (arith, numbered_length 0 (units_of c), length-take c.units.count c.units.luns, h.few_units)

-- the rows of one ground
transport_few : (c : Coordinator) → Counted c → (i : ℕ) → length (transport_rows c i) ≤ 32
unfolding transport_rows
transport_few c h i = simp length-map (held_few c h TransportId (transport_of c i))

enrolment_few : (c : Coordinator) → Counted c → (i : ℕ) (e : Enrolment) → length (enrolment_rows c i e) ≤ 32
unfolding enrolment_rows
enrolment_few c h i not_enrolled = omega arith
enrolment_few c h i (enrolled id) = simp length-map (held_few c h AccessId id)
enrolment_few c h i (pending id) = simp length-map (held_few c h AccessId id)

one_row : (ts : List Token) (p : ProxyLun) → length (row_of_proxy ts p) ≤ 1
one_row ts p = go (token_for ts p.token)
  where
    go : (o : Option Token) → length (proxy_row p o) ≤ 1
    go None = omega arith
    go (Some t) = omega arith

-- an initiator has no more X rows than proxy LUNs
proxy_rows_lem : (c : Coordinator) (i : ℕ) → length (proxy_rows c i) ≤ length (keep (owned_by i) (proxies_of c))
unfolding proxy_rows
proxy_rows_lem c i =
    omega (arith, gather_most (row_of_proxy (tokens_of c)) 1 (keep (owned_by i) (proxies_of c)) (λ p m. one_row (tokens_of c) p))

proxies_few : (c : Coordinator) → Counted c → length (proxies_of c) ≤ 32
proxies_few c h = omega (arith, length-take c.proxies.count c.proxies.items, h.few_proxies)

open_few : (c : Coordinator) → Counted c → (i : ℕ) → length (open_rows c i) ≤ 32
unfolding open_rows
open_few c h i =
    simp length-map (omega (arith, numbered_length 0 (units_of c), length-take c.units.count c.units.luns, h.few_units))

-- an initiator has at most 96 rows, of which all but 64 are X
either_few : (b : Bool) (l m : List Row) (n : ℕ) → length l ≤ n → length m ≤ n → length (cond b l m) ≤ n
either_few true l m n h k = h
either_few false l m n h k = k

rows_most : (c : Coordinator) → Counted c → (i : ℕ) → length (rows_of c i) ≤ 64 + length (keep (owned_by i) (proxies_of c))
unfolding rows_of
rows_most c h i =
    either_few c.enabled (transport_rows c i ++ (enrolment_rows c i (enrolment_of c i) ++ proxy_rows c i)) (open_rows c i) _
    (simp length-append (omega (arith, transport_few c h i, enrolment_few c h i (enrolment_of c i), proxy_rows_lem c i)))
    (omega (arith, open_few c h i))

pub few_rows : (c : Coordinator) → Counted c → (i : ℕ) → length (rows_of c i) ≤ 96
few_rows c h i = omega (arith, rows_most c h i, length_keep (owned_by i) (proxies_of c), proxies_few c h)

-- 16 initiators with 64 rows each, and 32 proxy LUNs over all of them
pub most_rows : (c : Coordinator) → Counted c → length (reach_rows c) ≤ 1056
unfolding reach_rows
most_rows c h =
    let n = c.initiators.count in
    let shared = shared_out (λ p. p.initiator) 0 n (proxies_of c) in
    let rows = gather_over (rows_of c) (λ i. keep (owned_by i) (proxies_of c)) 64 (below n) (λ i m. rows_most c h i) in
    simp length_sort (omega (arith, shared, rows, length_count 0 n, proxies_few c h, h.few_initiators))

pub largest_reach : (c : Coordinator) → Counted c → length (reach_bytes c) ≤ 4232
largest_reach c h = omega (arith, length_reach c, most_rows c h)
