-- The pages of REPORT ACL from their parts.
use Prim.Native.Nat.{ℕ, ◌+◌, ◌*◌, ◌<◌}
use mathlib.Core.Path.{◌≡◌, sym, subst}
use mathlib.Core.List.{List, [], ◌∷◌, ◌++◌}
use native.Mathlib.Omega.{arith}
use lib.ListN.{length, take}
use Rattle.lists.specs.Lists.{gather}
use Rattle.lists.specs.Order.{sort}
use Rattle.wire.specs.Write.{Wrote}
use Rattle.wire.proofs.Writing.{wrote_none}
use Rattle.paper.specs.Sizes.{id_size}
use Rattle.paper.specs.Tables.{content_by}
use Rattle.paper.specs.Reports.{luacd_before, token_before, luacd_bytes, head_bytes, identifier_bytes, granted_bytes, ace_bytes, token_bytes, proxy_page}
use Rattle.paper.specs.declared.state.Extent.TheVariants.{Listed, Everything}
use Rattle.paper.specs.declared.state.Ace.{Ace}
use Rattle.paper.specs.declared.state.Token.{Token}

module _ (luns : List ℕ) (a : Ace) {limit at e : ℕ} {old new : List ℕ} where
  pub listed_page : {n : ℕ} → a.extent ≡ Listed → n ≡ 28 + 20 * length (take a.count a.luacds) → Wrote limit at (head_bytes 0x00 n ++ (identifier_bytes id_size a ++ gather (luacd_bytes luns) (sort luacd_before (take a.count a.luacds)))) old e new → Wrote limit at (ace_bytes luns a) old e new
  unfolding ace_bytes
  listed_page x h w = subst (λ k. Wrote limit at (granted_bytes id_size luns a (content_by k (take a.count a.luacds))) old e new) (sym x) (rw h at w)

  pub everything_page : a.extent ≡ Everything → Wrote limit at (head_bytes 0x01 28 ++ identifier_bytes id_size a) old e new → Wrote limit at (ace_bytes luns a) old e new
  unfolding ace_bytes
  everything_page x w =
      subst (λ k. Wrote limit at (granted_bytes id_size luns a (content_by k (take a.count a.luacds))) old e new) (sym x) w

-- the proxy page: left out if empty
pub no_proxy_page : (luns : List ℕ) (ts : List Token) (limit at : ℕ) (buf : List ℕ) → length ts ≡ 0 → Wrote limit at (proxy_page luns ts) buf at buf
unfolding proxy_page
no_proxy_page luns [] limit at buf h = wrote_none limit at buf
no_proxy_page luns (t ∷ ts) limit at buf h = absurd (omega (arith, h))

pub some_proxy_page : (luns : List ℕ) (ts : List Token) {limit at e : ℕ} {old new : List ℕ} → 0 < length ts → Wrote limit at (head_bytes 0x02 (20 * length ts) ++ gather (token_bytes luns) (sort token_before ts)) old e new → Wrote limit at (proxy_page luns ts) old e new
unfolding proxy_page
some_proxy_page luns [] h w = absurd (omega arith)
some_proxy_page luns (t ∷ ts) h w = w

-- the same of the first tokens of a table
pub proxy_page_lem : (luns : List ℕ) (items : List Token) {n limit at e : ℕ} {old new : List ℕ} → 0 < n → length (take n items) ≡ n → Wrote limit at (head_bytes 0x02 (20 * n) ++ gather (token_bytes luns) (sort token_before (take n items))) old e new → Wrote limit at (proxy_page luns (take n items)) old e new
proxy_page_lem luns items {n} {limit} {at} {e} {old} {new} h k w =
    some_proxy_page luns (take n items) (omega (arith, h, k))
    (subst (λ m. Wrote limit at (head_bytes 0x02 (20 * m) ++ gather (token_bytes luns) (sort token_before (take n items))) old e new) (sym k) w)
