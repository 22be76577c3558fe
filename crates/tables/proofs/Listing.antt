-- The tokens that a page 02h lists, from a place on.
use Prim.Native.Nat.{ℕ, ◌+◌, ◌-◌, ◌*◌, ◌/◌, ◌≤◌, ◌<◌}
use mathlib.Core.Path.{◌≡◌}
use mathlib.Core.List.{List, [], ◌∷◌, map}
use native.Mathlib.Omega.{arith}
use native.Mathlib.Nat.{add-zero}
use lib.ListN.{drop}
use Rattle.lists.specs.Lists.{parts}
use Rattle.lists.specs.Bytes.{be}
use Rattle.lists.proofs.Bytes.{be_take, be_drop}
use Rattle.paper.specs.Pages.{token_in, tokens_in}
use Rattle.lists.proofs.Parts.{parts_next}

abbrev pub tokens_from : List ℕ → ℕ → ℕ → List ℕ
tokens_from page at n = map token_in (parts 8 n (drop at page))

pub tokens_first : (page : List ℕ) (n : ℕ) → n ≡ be 2 page 2 / 8 → tokens_in page ≡ tokens_from page (4 + 8 * 0) (n - 0)
unfolding tokens_in
tokens_first page n e = let f : n - 0 ≡ n = omega arith in rw (f, e)

-- one more is read, of n
pub tokens_next : (page : List ℕ) (k n : ℕ) → k < n → tokens_from page (4 + 8 * k) (n - k) ≡ be 8 page (4 + 8 * k) ∷ tokens_from page (4 + 8 * (k + 1)) (n - (k + 1))
tokens_next page k n h =
    let e : n - k - 1 ≡ n - (k + 1) = omega arith in
    let f : 4 + 8 * k + 8 ≡ 4 + 8 * (k + 1) = omega arith in
    rw (parts_next 8 (n - k) (4 + 8 * k) page (omega (arith, h)), be_take 8 (drop (4 + 8 * k) page) 0 8 (omega arith), be_drop 8 page 0 (4 + 8 * k), add-zero, e, f)

pub tokens_none : (page : List ℕ) (at n k : ℕ) → n ≤ k → tokens_from page at (n - k) ≡ []
unfolding parts
tokens_none page at n k h = let e : n - k ≡ 0 = omega (arith, h) in rw e
