-- Numbers from bytes, as std reads them and as the paper counts them.
use Rattle.std.proofs.Common.{ℕ, zero, suc, ◌≡◌, ◌+◌, ◌<◌, List, get_or, drop, refl, ◌∙◌, arith}
use Rattle.std.specs.Fn.{Mut}
use Rattle.std.specs.Int.{w16, w32, w64, from_be_bytes, to_be_bytes}
use Rattle.lists.specs.Bytes.{be, be_bytes}
use Rattle.lists.proofs.Bytes.{be_same, be_drop}
use native.Mathlib.Nat.{add-zero, div-div-eq-div-mul}
use Rattle.std.specs.Array.{IsFromFnResultFrom}
use denote.Param.Members.{Called}

each_from : {F : Type 0} (g : Mut F (ℕ × Unit {0}) ℕ) (f : F) (h : ℕ → ℕ) → ((k y : ℕ) (q : F) → Called g f (k, tt) y q → (q ≡ f) × (y ≡ h k)) → (ys : List ℕ) (n i : ℕ) → IsFromFnResultFrom g f ys i n → (k : ℕ) → k < n → get_or ys (i + k) 0 ≡ h (i + k)
each_from g f h e ys zero i r k l = absurd (omega arith)
each_from g f h e ys (suc n) i (q, y, at, called, rest) zero l = let x = e i y q called in rw add-zero (at.1 0 ∙ x.1)
each_from g f h e ys (suc n) i (q, y, at, called, rest) (suc k) l =
    let x = e i y q called in
    let j : i + suc k ≡ i + 1 + k = omega arith in
    rw j (each_from g f h e ys n (i + 1) (rw x.0 at rest) k (omega arith))

pub made_each : {F : Type 0} (g : Mut F (ℕ × Unit {0}) ℕ) (f : F) (h : ℕ → ℕ) → ((k y : ℕ) (q : F) → Called g f (k, tt) y q → (q ≡ f) × (y ≡ h k)) → (ys : List ℕ) (n : ℕ) → IsFromFnResultFrom g f ys 0 n → (k : ℕ) → k < n → get_or ys k 0 ≡ h k
made_each g f h e ys n r k l = let j : 0 + k ≡ k = omega arith in rw j at (each_from g f h e ys n 0 r k l)

-- the number of n bytes is that of what stands from the place on
number_at : (n : ℕ) (bs s : List ℕ) (at : ℕ) → ((k : ℕ) → k < n → get_or bs k 0 ≡ get_or (drop at s) k 0) → be n bs 0 ≡ be n s at
number_at n bs s at e = be_same n bs (drop at s) 0 0 (λ k l. let j : 0 + k ≡ k = omega arith in rw j (e k l)) ∙ (be_drop n s 0 at ∙ rw add-zero)

module _ (bs s : List ℕ) (at : ℕ) where
  pub be_16 : ((k : ℕ) → k < 2 → get_or bs k 0 ≡ get_or (drop at s) k 0) → from_be_bytes w16 bs ≡ be 2 s at
  unfolding be
  be_16 e = omega (arith, number_at 2 bs s at e)

  pub be_32 : ((k : ℕ) → k < 4 → get_or bs k 0 ≡ get_or (drop at s) k 0) → from_be_bytes w32 bs ≡ be 4 s at
  unfolding be
  be_32 e = omega (arith, number_at 4 bs s at e)

  pub be_64 : ((k : ℕ) → k < 8 → get_or bs k 0 ≡ get_or (drop at s) k 0) → from_be_bytes w64 bs ≡ be 8 s at
  unfolding be
  be_64 e = omega (arith, number_at 8 bs s at e)

-- the bytes of a number
pub bytes_16 : (x : ℕ) → to_be_bytes w16 x ≡ be_bytes 2 x
unfolding be_bytes
bytes_16 x = refl

pub bytes_32 : (x : ℕ) → to_be_bytes w32 x ≡ be_bytes 4 x
unfolding be_bytes
bytes_32 x = simp div-div-eq-div-mul

pub bytes_64 : (x : ℕ) → to_be_bytes w64 x ≡ be_bytes 8 x
unfolding be_bytes
bytes_64 x = simp div-div-eq-div-mul
