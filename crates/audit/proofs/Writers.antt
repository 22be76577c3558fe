-- Laws of writers: bytes known by another name, where a writer ends, and a loop that writes what each element of a list gives.
use Prim.Native.Nat.{ℕ, ◌+◌, ◌*◌, ◌≤◌, ◌<◌}
use mathlib.Core.Path.{◌≡◌, subst, ap, ◌∙◌}
use mathlib.Core.List.{List, [], ◌∷◌}
use native.Mathlib.Omega.{arith}
use native.Mathlib.Numerals.{add-one}
use native.Mathlib.Nat.{zero-add, mul-suc}
use lib.ListN.{length, drop, drop_of_length-le}
use Rattle.lists.specs.Lists.{gather, below}
use Rattle.lists.proofs.Parts.{length_count, get_or_count}
use Rattle.lists.proofs.Walk.{drop_one}
use Rattle.wire.specs.Write.{Wrote, writes}
use Rattle.wire.proofs.Writing.{Left, left_step, left_end, wrote_length}

-- ---- a writer whose bytes are known by another name
pub wrote_as : {limit at e : ℕ} {xs ys b₀ b₁ : List ℕ} → xs ≡ ys → Wrote limit at xs b₀ e b₁ → Wrote limit at ys b₀ e b₁
wrote_as {limit} {at} {e} {xs} {ys} {b₀} {b₁} q w = subst (λ l. Wrote limit at l b₀ e b₁) q w

-- ---- where a writer of at most n bytes ends
pub ends_within : {limit at e n : ℕ} {xs b₀ b₁ : List ℕ} → length xs ≤ n → Wrote limit at xs b₀ e b₁ → e ≤ at + n
ends_within h w = omega (arith, w.ended)

-- ---- a loop that writes what each element gives, at most so many bytes: k elements are written, and what is left decides
pub record Laid {A : Type 0} (f : A → List ℕ) (l : List A) (most limit from : ℕ) (buf₀ : List ℕ) (k at : ℕ) (buf : List ℕ) : Type 0 where
  pub near : at ≤ from + most * k
  pub same : length buf ≡ length buf₀
  pub left : Left limit at (gather f (drop k l)) buf (from + length (gather f l)) (writes limit from (gather f l) buf₀)

module _ {A : Type 0} {f : A → List ℕ} {l : List A} {most limit from : ℕ} {buf₀ : List ℕ} {k at : ℕ} {buf : List ℕ} (v : Laid f l most limit from buf₀ k at buf) where
  pub laid_next : {x : A} {e : ℕ} {new : List ℕ} → drop k l ≡ x ∷ drop (k + 1) l → e ≤ at + most → Wrote limit at (f x) buf e new → Laid f l most limit from buf₀ (k + 1) e new
  laid_next q h w =
      let more : most * (k + 1) ≡ most * k + most = rw (add-one k) (mul-suc most k) in
      record {
        near = omega (arith, v.near);
        same = wrote_length w ∙ v.same;
        left = left_step (rw q) v.left w;
      }

  pub laid_end : drop k l ≡ [] → Wrote limit from (gather f l) buf₀ at buf
  laid_end q = left_end (rw q) v.left

-- the same, by what is left
pub record Laying {A : Type 0} (f : A → List ℕ) (l : List A) (most limit from : ℕ) (buf₀ : List ℕ) (rest : List A) (at : ℕ) (buf : List ℕ) : Type 0 where
  pub near : at + most * length rest ≤ from + most * length l
  pub same : length buf ≡ length buf₀
  pub left : Left limit at (gather f rest) buf (from + length (gather f l)) (writes limit from (gather f l) buf₀)

module _ {A : Type 0} {f : A → List ℕ} {l : List A} {most limit from : ℕ} {buf₀ : List ℕ} {rest : List A} {at : ℕ} {buf : List ℕ} (v : Laying f l most limit from buf₀ rest at buf) where
  pub laying_room : {x : A} {more : List A} → rest ≡ x ∷ more → at + most ≤ from + most * length l
  laying_room {x} {more} q =
      omega (arith, v.near, ap (λ r. most * length r) q, mul-suc most (length more))

  pub laying_next : {x : A} {more : List A} {e : ℕ} {new : List ℕ} → rest ≡ x ∷ more → e ≤ at + most → Wrote limit at (f x) buf e new → Laying f l most limit from buf₀ more e new
  laying_next {x} {more} q h w =
      record {
        near = omega (arith, v.near, ap (λ r. most * length r) q, mul-suc most (length more));
        same = wrote_length w ∙ v.same;
        left = left_step (rw q) v.left w;
      }

  pub laying_end : rest ≡ [] → Wrote limit from (gather f l) buf₀ at buf
  laying_end q = left_end (rw q) v.left

-- ---- the numbers below n, from the k-th on: one and the rest, or none
module _ (n : ℕ) {k : ℕ} where
  pub below_next : k < n → drop k (below n) ≡ k ∷ drop (k + 1) (below n)
  below_next h =
      drop_one 0 (below n) k (omega (arith, length_count 0 n)) ∙ rw (get_or_count 0 n k 0 h, zero-add)

  pub below_end : n ≤ k → drop k (below n) ≡ []
  below_end h = drop_of_length-le (below n) {i = k} (omega (arith, length_count 0 n))
