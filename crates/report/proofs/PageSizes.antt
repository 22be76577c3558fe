-- How long the pages of REPORT ACL are.
use Rattle.std.proofs.Common.{ℕ, zero, suc, ◌+◌, ◌*◌, ◌≤◌, ◌<◌, ◌≡◌, refl, ap, true, false, List, [], length, take, drop, get_or, length-append, drop-cons, add-one, arith}
use Rattle.std.specs.Prelude.{◌==◌}
use borrow.Author.Tests.{eqb-true, eqb-false}
use lib.ListN.{drop_of_length-le}
use Rattle.lists.specs.Lists.{gather}
use Rattle.lists.proofs.Bytes.{bytes_length}
use Rattle.paper.specs.Tables.{units_of, aces_of, tokens_of}
use Rattle.paper.specs.Standing.{luacds_of, standing}
use Rattle.paper.specs.Reports.{ace_bytes, proxy_page, report_pages, report_bytes}
use Rattle.paper.proofs.Stood.{Counted, stood, counted}
use Rattle.paper.proofs.Lengths.{length_ace, length_proxy, proxy_size, length_report, largest_report}
use Rattle.paper.specs.declared.state.Extent.TheVariants.{Listed, Everything}
use Rattle.paper.specs.declared.state.Ace.{Ace}
use Rattle.paper.specs.declared.state.Token.{Token}
use Rattle.paper.specs.declared.state.Coordinator.{Coordinator}

-- ---- how many LUACDs a page has
pub listed_size : (a : Ace) → a.extent ≡ Listed → luacds_of a ≡ take a.count a.luacds
listed_size a e = rw e

pub everything_size : (a : Ace) → a.extent ≡ Everything → luacds_of a ≡ []
everything_size a e = rw e

-- the pages counted, and those of the ACEs that are left, are together all pages
module _ (luns : List ℕ) (aces : List Ace) (total : ℕ) {k : ℕ} where
  pub counted_more : (a : Ace) {size : ℕ} → k < length aces → size ≡ 32 + 20 * length (luacds_of (get_or aces k a)) → total + length (gather (ace_bytes luns) (drop k aces)) ≡ length (gather (ace_bytes luns) aces) → total + size + length (gather (ace_bytes luns) (drop (k + 1) aces)) ≡ length (gather (ace_bytes luns) aces)
  counted_more a h is s =
      let next = rw (drop-cons aces k a h, length-append) at s in
      rw add-one (omega (arith, next, is, length_ace luns (get_or aces k a)))

  pub counted_all : length aces ≤ k → total + length (gather (ace_bytes luns) (drop k aces)) ≡ length (gather (ace_bytes luns) aces) → total ≡ length (gather (ace_bytes luns) aces)
  counted_all h s = let none = rw (drop_of_length-le aces {i = k} h) at s in omega (arith, none)

-- ---- the proxy page
proxy_some : (n : ℕ) → 0 < n → proxy_size n ≡ 4 + 20 * n
proxy_some zero h = absurd (omega arith)
proxy_some (suc n) h = refl

some_there : (n : ℕ) → (n == 0) ≡ false → 0 < n
some_there n k =
    let other = eqb-false n 0 k in omega (arith, other)

pub proxy_length : (luns : List ℕ) (ts : List Token) → (length ts == 0) ≡ false → 4 + 20 * length ts ≡ length (proxy_page luns ts)
proxy_length luns ts k = omega (arith, length_proxy luns ts, proxy_some (length ts) (some_there (length ts) k))

-- the same of the first tokens of a table
pub no_proxy_lem : (luns : List ℕ) (items : List Token) {n : ℕ} → n ≡ 0 → 0 ≡ length (proxy_page luns (take n items))
unfolding proxy_page
no_proxy_lem luns items e = rw e

pub no_proxy_length : (luns : List ℕ) (ts : List Token) → (length ts == 0) ≡ true → 0 ≡ length (proxy_page luns ts)
no_proxy_length luns ts k =
    let none : length ts ≡ 0 = eqb-true (length ts) 0 k in omega (arith, length_proxy luns ts, ap proxy_size none)

-- ---- the report has eight bytes before its pages
pub length_header : (c : Coordinator) → length (report_bytes c) ≡ 8 + length (report_pages c)
unfolding report_bytes
length_header c = simp (length-append, bytes_length) (omega arith)

-- ---- the pages of a standing coordinator
pub counts_of : (c : Coordinator) → standing c ≡ true → Counted c
counts_of c h = counted c (stood c h).counts

pub all_pages : (c : Coordinator) → standing c ≡ true → {n m : ℕ} → n ≡ length (gather (ace_bytes (units_of c)) (aces_of c)) → m ≡ length (proxy_page (units_of c) (tokens_of c)) → (n + m ≡ length (report_pages c)) × (n + m ≤ 11908)
all_pages c h aces proxies =
    omega (arith, length_proxy (units_of c) (tokens_of c), length_report c, length_header c, largest_report c (counts_of c h))
