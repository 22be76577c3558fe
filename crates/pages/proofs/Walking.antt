-- A walk over pages: the first page, and those of what comes behind it.
use Prim.Native.Nat.{ℕ, ◌<◌}
use mathlib.Core.Path.{◌≡◌}
use mathlib.Core.List.{List, ◌∷◌}
use lib.ListN.{length, take, drop}
use Rattle.lists.specs.Pages.{page_size, pages_of}
use Rattle.lists.proofs.Pages.{pages_step}

module _ (s : List ℕ) {later : List ℕ} (h : 0 < length s) (f : later ≡ drop (page_size s) s) where
  -- the first page, and those of what comes behind it
  pub pages_turn : {page : List ℕ} → page ≡ take (page_size s) s → pages_of s ≡ page ∷ pages_of later
  pages_turn e = rw (e, f) (pages_step s h)
