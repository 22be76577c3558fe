-- Laws of writers. Two writers one after the other write the one's bytes and then the other's (`then`); a run is
-- stored as far as the limit and the buffer allow (`wrote_run`); a loop keeps what is left to write (`Left`); and what is written from 0 on is what is delivered (`delivers`).
use Prim.Native.Nat.{ℕ, zero, suc, ◌+◌, ◌-◌, min, ◌≤◌, ◌<◌}
use native.Mathlib.Omega.{arith}
use native.Mathlib.Nat.{add-zero}
use mathlib.Core.Path.{◌≡◌, refl, ap, ap₂, ◌∙◌, sym}
use mathlib.Core.List.{List, [], ◌∷◌, ◌++◌, append_assoc}
use mathlib.Core.Bool.{Bool, true, false, cond}
use native.Mathlib.Decide.{dec_lt}
use lib.ListN.{length, take, drop, set, length-append, length-set, length-take, length-replicate, replicate, drop_of_length-le}
use lib.Seq.{sets, sets-eq, set_out, take-nil, drop-drop}
use lib.Dec.{ltb, leb-suc-suc}
use borrow.Author.Tests.{lt-ltb, le-ltb}
use borrow.Rule.Slice.PartMut.{put_mid}
use Rattle.std.proofs.lemmas.List.{take_min, take-replicate}
use Rattle.lists.specs.Bytes.{deliver}
use Rattle.wire.specs.Write.{put_at, writes, Wrote}

-- ---- nothing is written
pub wrote_none : (limit at : ℕ) (buf : List ℕ) → Wrote limit at [] buf at buf
unfolding writes
wrote_none limit at buf = record { ended = omega arith; holds = refl }

-- ---- one byte
pub wrote_in : (limit at b : ℕ) (buf : List ℕ) → at < limit → Wrote limit at (b ∷ []) buf (at + 1) (set buf at b)
unfolding writes put_at
wrote_in limit at b buf h = record { ended = refl; holds = rw (lt-ltb at limit h) }

-- ---- a run is stored as far as the limit and the buffer allow
writes_past : (limit at : ℕ) (xs buf : List ℕ) → min limit (length buf) ≤ at → writes limit at xs buf ≡ buf
unfolding writes put_at
writes_past limit at [] buf h = refl
writes_past limit at (x ∷ xs) buf h = go (dec_lt at limit) (writes_past limit (suc at) xs buf (omega arith))
  where
    go : Dec (at < limit) → writes limit (suc at) xs buf ≡ buf → writes limit at (x ∷ xs) buf ≡ buf
    go (yes l) e = rw (lt-ltb at limit l, set_out buf at x (omega arith)) e
    go (no l) e = rw (le-ltb at limit (omega arith)) e

writes_sets : (limit at : ℕ) (xs buf : List ℕ) → writes limit at xs buf ≡ sets buf at (take (min limit (length buf) - at) xs)
unfolding writes put_at
writes_sets limit at [] buf = rw take-nil
writes_sets limit at (x ∷ xs) buf = go (dec_lt at (min limit (length buf))) (writes_sets limit (suc at) xs (set buf at x))
  where
    go : Dec (at < min limit (length buf)) → writes limit (suc at) xs (set buf at x) ≡ sets (set buf at x) (suc at) (take (min limit (length (set buf at x)) - suc at) xs) → writes limit at (x ∷ xs) buf ≡ sets buf at (take (min limit (length buf) - at) (x ∷ xs))
    go (yes l) e =
        let k : min limit (length buf) - at ≡ suc (min limit (length buf) - suc at) = omega arith in
        rw (lt-ltb at limit (omega arith), e, length-set buf at x, k)
    go (no l) e =
        let k : min limit (length buf) - at ≡ 0 = omega arith in
        writes_past limit at (x ∷ xs) buf (omega arith) ∙ rw k

pub wrote_nothing : (limit at : ℕ) (xs buf : List ℕ) → min limit (length buf) ≤ at → Wrote limit at xs buf (at + length xs) buf
wrote_nothing limit at xs buf h = record { ended = refl; holds = sym (writes_past limit at xs buf h) }

-- as the code stores it: k bytes, which are as many of the run as there is room for
pub wrote_run : (limit at end k : ℕ) (xs buf ys : List ℕ) → end ≡ min limit (length buf) → at ≤ end → k ≡ min (length xs) (end - at) → ys ≡ take k xs → Wrote limit at xs buf (at + length xs) (put_mid at k buf ys)
wrote_run limit at end k xs buf ys r h q e =
    let n : k ≡ length ys = omega (arith, ap length e, length-take k xs) in
    let m : k ≡ min (end - at) (length xs) = omega arith in
    let z : ys ≡ take (end - at) xs = rw m at e ∙ take_min (end - at) xs in
    record {
      ended = refl;
      holds = rw (n, drop-drop) (sym (append_assoc (take at buf) ys (drop (at + length ys) buf)) ∙ sym (sets-eq ys buf at (omega arith)) ∙ rw (z, r) (sym (writes_sets limit at xs buf)));
    }

pub wrote_zeros : (limit at end n k m : ℕ) (buf ys : List ℕ) → end ≡ min limit (length buf) → at ≤ end → k ≡ min n (end - at) → ys ≡ replicate m 0 → m ≡ k → Wrote limit at (replicate n 0) buf (at + n) (put_mid at k buf ys)
wrote_zeros limit at end n k m buf ys r h q e l =
    let j : length (replicate {A = ℕ} n 0) ≡ n = length-replicate n 0 in
    let z : replicate {A = ℕ} m 0 ≡ take k (replicate n 0) = rw l (sym (take-replicate {X = ℕ} k n 0 (omega arith))) in
    let w = wrote_run limit at end k (replicate n 0) buf ys r h (omega arith) (e ∙ z) in
    record { ended = omega (arith, w.ended); holds = w.holds }

pub wrote_no_zeros : (limit at n : ℕ) (buf : List ℕ) → min limit (length buf) ≤ at → Wrote limit at (replicate n 0) buf (at + n) buf
wrote_no_zeros limit at n buf h = let j : length (replicate {A = ℕ} n 0) ≡ n = length-replicate n 0 in record { ended = omega arith; holds = (wrote_nothing limit at (replicate n 0) buf h).holds }

-- ---- one writer after the other
pub writes_append : (limit at : ℕ) (xs ys buf : List ℕ) → writes limit at (xs ++ ys) buf ≡ writes limit (at + length xs) ys (writes limit at xs buf)
unfolding writes
writes_append limit at [] ys buf = rw add-zero
writes_append limit at (x ∷ xs) ys buf =
    let e : suc at + length xs ≡ at + suc (length xs) = omega arith in
    writes_append limit (suc at) xs ys (put_at limit at x buf) ∙ rw e

-- the second was handed the place as a number, or as the first gave it back
pub then_at : {limit at m k e : ℕ} {xs ys b₀ b₁ b₂ : List ℕ} → Wrote limit at xs b₀ m b₁ → k ≡ at + length xs → Wrote limit k ys b₁ e b₂ → Wrote limit at (xs ++ ys) b₀ e b₂
then_at {limit} {at} {m} {k} {e} {xs} {ys} {b₀} {b₁} {b₂} v q w =
    record {
      ended = omega (arith, q, w.ended, length-append xs ys);
      holds = w.holds ∙ ap₂ (λ (i : ℕ) (b : List ℕ). writes limit i ys b) q v.holds ∙ sym (writes_append limit at xs ys b₀);
    }

pub then : {limit at m e : ℕ} {xs ys b₀ b₁ b₂ : List ℕ} → Wrote limit at xs b₀ m b₁ → Wrote limit m ys b₁ e b₂ → Wrote limit at (xs ++ ys) b₀ e b₂
then v w = then_at v v.ended w

-- ---- what a loop has left to write: `rest`, from `at` on, to end at `total` with the buffer `final`
pub record Left (limit at : ℕ) (rest buf : List ℕ) (total : ℕ) (final : List ℕ) : Type 0 where
  pub ends : total ≡ at + length rest
  pub gives : final ≡ writes limit at rest buf

pub left_start : (limit at : ℕ) (xs buf : List ℕ) → Left limit at xs buf (at + length xs) (writes limit at xs buf)
left_start limit at xs buf = record { ends = refl; gives = refl }

pub left_step : {limit at m t : ℕ} {zs xs ys b₀ b₁ f : List ℕ} → zs ≡ xs ++ ys → Left limit at zs b₀ t f → Wrote limit at xs b₀ m b₁ → Left limit m ys b₁ t f
left_step {limit} {at} {m} {t} {zs} {xs} {ys} {b₀} {b₁} {f} q l w =
    record {
      ends = omega (arith, l.ends, w.ended, ap length q, length-append xs ys);
      gives = l.gives ∙ ap (λ (k : List ℕ). writes limit at k b₀) q ∙ writes_append limit at xs ys b₀
          ∙ sym (ap₂ (λ (k : ℕ) (b : List ℕ). writes limit k ys b) w.ended w.holds);
    }

pub left_end : {limit at₀ at : ℕ} {xs rest b₀ b : List ℕ} → rest ≡ [] → Left limit at rest b (at₀ + length xs) (writes limit at₀ xs b₀) → Wrote limit at₀ xs b₀ at b
unfolding writes
left_end {limit} {at₀} {at} {xs} {rest} {b₀} {b} q l =
    record {
      ended = omega (arith, l.ends, ap length q);
      holds = sym (l.gives ∙ ap (λ (k : List ℕ). writes limit at k b) q);
    }

-- ---- a writer keeps the buffer's length
length_put : (limit at x : ℕ) (buf : List ℕ) → length (put_at limit at x buf) ≡ length buf
unfolding put_at
length_put limit at x buf = one (ltb at limit)
  where
    one : (b : Bool) → length (cond b (set buf at x) buf) ≡ length buf
    one true = length-set buf at x
    one false = refl

pub length_writes : (limit at : ℕ) (xs buf : List ℕ) → length (writes limit at xs buf) ≡ length buf
unfolding writes
length_writes limit at [] buf = refl
length_writes limit at (x ∷ xs) buf =
    length_writes limit (suc at) xs (put_at limit at x buf) ∙ length_put limit at x buf

pub wrote_length : {limit at e : ℕ} {xs b₀ b₁ : List ℕ} → Wrote limit at xs b₀ e b₁ → length b₁ ≡ length b₀
wrote_length {limit} {at} {e} {xs} {b₀} w = ap length w.holds ∙ length_writes limit at xs b₀

-- ---- what is written from 0 on is delivered, as far as the limit allows
put_tail : (limit at x b : ℕ) (buf : List ℕ) → put_at (suc limit) (suc at) x (b ∷ buf) ≡ b ∷ put_at limit at x buf
unfolding put_at
put_tail limit at x b buf = rw (leb-suc-suc (suc at) limit) (go (ltb at limit))
  where
    go : (t : Bool) → cond t (b ∷ set buf at x) (b ∷ buf) ≡ b ∷ cond t (set buf at x) buf
    go true = refl
    go false = refl

writes_tail : (limit at : ℕ) (xs : List ℕ) (b : ℕ) (buf : List ℕ) → writes (suc limit) (suc at) xs (b ∷ buf) ≡ b ∷ writes limit at xs buf
unfolding writes
writes_tail limit at [] b buf = refl
writes_tail limit at (x ∷ xs) b buf = rw (put_tail limit at x b buf) (writes_tail limit (suc at) xs b (put_at limit at x buf))

writes_none : (at : ℕ) (xs buf : List ℕ) → writes 0 at xs buf ≡ buf
unfolding writes put_at
writes_none at [] buf = refl
writes_none at (x ∷ xs) buf = rw (le-ltb at 0 (omega arith)) (writes_none (suc at) xs buf)

writes_nowhere : (limit at : ℕ) (xs : List ℕ) → writes limit at xs [] ≡ []
writes_nowhere limit at xs = drop_of_length-le (writes limit at xs []) {i = 0} (omega (arith, length_writes limit at xs []))

pub delivers : (limit : ℕ) (xs buf : List ℕ) → writes limit 0 xs buf ≡ deliver (take limit xs) buf
unfolding writes deliver put_at
delivers zero xs buf = writes_none 0 xs buf ∙ rw take-nil
delivers (suc limit) [] buf = rw take-nil
delivers (suc limit) (x ∷ xs) [] = writes_nowhere (suc limit) 0 (x ∷ xs)
delivers (suc limit) (x ∷ xs) (b ∷ buf) =
    rw (lt-ltb 0 (suc limit) (omega arith), writes_tail limit 0 xs x buf, delivers limit xs buf)

pub delivered : {limit e : ℕ} {xs b₀ b₁ : List ℕ} → Wrote limit 0 xs b₀ e b₁ → b₁ ≡ deliver (take limit xs) b₀
delivered {limit} {e} {xs} {b₀} w = w.holds ∙ delivers limit xs b₀
