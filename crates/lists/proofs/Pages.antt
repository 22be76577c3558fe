-- Laws of the pages of a list. A loop that walks pages keeps `f (pages_of all) ≡ f (pages_of rest)`; each turn cites `pages_next`.
use Prim.Native.Nat.{ℕ, zero, suc, ◌-◌, ◌≤◌, ◌<◌, min}
use mathlib.Core.Path.{◌≡◌, refl, ap, ap₂, sym, ◌∙◌}
use mathlib.Core.List.{List, [], ◌∷◌}
use mathlib.Core.Bool.{true, false}
use native.Mathlib.Omega.{arith}
use native.Mathlib.Nat.{le_refl}
use native.Mathlib.Decide.{dec_le}
use lib.ListN.{length, take, drop, length-take, length-drop, drop_of_length-le}
use lib.Seq.{take_all, drop-length}
use borrow.Author.Tests.{le-leb, lt-leb}
use Rattle.lists.specs.Pages.{page_size, pages_up_to, pages_of, whole_page}
use Rattle.lists.proofs.Bytes.{be_take}

-- the rest of a slice, as the rule for `&s[at..]` states it
pub rest_is : {A : Type 0} (s : List A) (at : ℕ) → take (length s - at) (drop at s) ≡ drop at s
rest_is s at = take_all (length s - at) (drop at s) (simp length-drop (le_refl _))

-- ---- no pages; a page and those after it
fuel : (n m : ℕ) (s : List ℕ) → length s ≤ n → length s ≤ m → pages_up_to n s ≡ pages_up_to m s
unfolding pages_up_to page_size
fuel zero zero s h k = refl
fuel zero (suc m) [] h k = refl
fuel zero (suc m) (b ∷ s) h k = absurd (omega arith)
fuel (suc n) zero [] h k = refl
fuel (suc n) zero (b ∷ s) h k = absurd (omega arith)
fuel (suc n) (suc m) [] h k = refl
fuel (suc n) (suc m) (b ∷ s) h k =
    ap (λ ps. take (page_size (b ∷ s)) (b ∷ s) ∷ ps)
    (fuel n m (drop (page_size (b ∷ s)) (b ∷ s)) (simp length-drop (omega arith)) (simp length-drop (omega arith)))

pub pages_end : (s : List ℕ) → length s ≤ 0 → pages_of s ≡ []
unfolding pages_of pages_up_to
pages_end [] h = refl
pages_end (b ∷ s) h = absurd (omega arith)

pub pages_step : (s : List ℕ) → 0 < length s → pages_of s ≡ take (page_size s) s ∷ pages_of (drop (page_size s) s)
unfolding pages_of pages_up_to page_size
pages_step [] h = absurd (omega arith)
pages_step (b ∷ s) h =
    ap (λ ps. take (page_size (b ∷ s)) (b ∷ s) ∷ ps)
    (fuel (length s) (length (drop (page_size (b ∷ s)) (b ∷ s))) (drop (page_size (b ∷ s)) (b ∷ s)) (simp length-drop (omega arith)) (le_refl _))

-- ---- the first page: its head is in it; it is whole, or the end cuts it off
pub size_some : (s : List ℕ) → 3 < page_size s
unfolding page_size
size_some s = omega arith

pub first_size : (s : List ℕ) → page_size (take (page_size s) s) ≡ page_size s
unfolding page_size
first_size s = rw (be_take 2 s 2 (page_size s) (size_some s))

pub first_whole : (s : List ℕ) → page_size s ≤ length s → whole_page (take (page_size s) s) ≡ true
unfolding whole_page
first_whole s h = le-leb (page_size (take (page_size s) s)) (length (take (page_size s) s)) (simp (first_size, length-take) (omega arith))

pub first_cut : (s : List ℕ) → length s < page_size s → whole_page (take (page_size s) s) ≡ false
unfolding whole_page
first_cut s h = lt-leb (page_size (take (page_size s) s)) (length (take (page_size s) s)) (simp (first_size, length-take) (omega arith))

-- ---- a walk by slices: `let page = first_page(rest); .. rest = &rest[page.len()..];`
drop_min : {A : Type 0} (a : ℕ) (s : List A) → drop (min a (length s)) s ≡ drop a s
drop_min a s = go (dec_le a (length s))
  where
    go : Dec (a ≤ length s) → drop (min a (length s)) s ≡ drop a s
    go (yes h) = let e : min a (length s) ≡ a = omega arith in rw e
    go (no h) =
        let e : min a (length s) ≡ length s = omega arith in
        rw (e, drop-length) (sym (drop_of_length-le s {i = a} (omega arith)))

module _ (s p : List ℕ) (is : p ≡ take (page_size s) s) where
  pub page_length_lem : length p ≡ min (page_size s) (length s)
  page_length_lem = ap length is ∙ length-take (page_size s) s

  pub page_within : length p ≤ length s
  page_within = omega (arith, page_length_lem)

  pub page_some : 0 < length s → 0 < length p
  page_some h = omega (arith, page_length_lem, size_some s)

  next_is : take (length s - length p) (drop (length p) s) ≡ drop (page_size s) s
  next_is = rest_is s (length p) ∙ ap (λ k. drop k s) page_length_lem ∙ drop_min (page_size s) s

  -- any function of the pages goes on with the pages of what is left
  pub pages_next : 0 < length s → pages_of s ≡ p ∷ pages_of (take (length s - length p) (drop (length p) s))
  pages_next h = pages_step s h ∙ ap₂ ◌∷◌ (sym is) (ap pages_of (sym next_is))
