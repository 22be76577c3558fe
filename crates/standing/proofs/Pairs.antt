-- Loops over each two entries: what the outer loop knows goes with the inner one, so that a step asks for nothing but its test.
use Prim.Native.Nat.{ℕ, ◌+◌, ◌≤◌, ◌<◌}
use mathlib.Core.Path.{◌≡◌, ap, sym, ◌∙◌}
use mathlib.Core.List.{List}
use mathlib.Core.Bool.{Bool, true, false, not}
use lib.ListN.{get_or, take}
use Rattle.lists.specs.Lists.{pairs}
use Rattle.lists.proofs.Checks.{Seeking, seek_found, seek_more, seek_end, Pairing, pair_none, pair_seek, pair_found, pair_more, pair_end}

-- the entry at i, held to the later ones before j; d is what stands past the end
pub record Holding {A : Type 0} (f : A → A → Bool) (l : List A) (size k n : ℕ) (d : A) (i j : ℕ) : Type 0 where
  pub outer : Pairing f l size k n i
  pub more : i < n
  pub inner : Seeking (f (get_or l i d)) l size k n (i + 1) j

-- us, of which the paper speaks, are the entries in use
module _ {A : Type 0} {f : A → A → Bool} {l : List A} {size k n i : ℕ} (s : Pairing f l size k n i) where
  pub hold : (d : A) → i < n → Holding f l size k n d i (i + 1)
  hold d h = record { outer = s; more = h; inner = pair_seek s d h }

  pub once_end : {us : List A} → us ≡ take k l → n ≤ i → true ≡ not (pairs f us)
  once_end e h = ap not (sym (ap (pairs f) e ∙ pair_end s h))

module _ {A : Type 0} {f : A → A → Bool} {l : List A} {size k n i j : ℕ} {d : A} (s : Holding f l size k n d i j) where
  pub once_found : {us : List A} {b : Bool} → us ≡ take k l → j < n → b ≡ f (get_or l i d) (get_or l j d) → b ≡ true → false ≡ not (pairs f us)
  once_found u h t e = ap not (sym (ap (pairs f) u ∙ pair_found s.outer d s.more (seek_found s.inner d h t e)))

  pub hold_more : {b : Bool} → j < n → b ≡ f (get_or l i d) (get_or l j d) → b ≡ false → Holding f l size k n d i (j + 1)
  hold_more h t e = record { outer = s.outer; more = s.more; inner = seek_more s.inner d h t e }

  pub hold_end : n ≤ j → Pairing f l size k n (i + 1)
  hold_end h = pair_more s.outer d s.more (seek_end s.inner h)

-- a loop's start, its steps and its exits
pub ruleset pairing = (pair_none, hold, hold_more, hold_end, once_found, once_end)
