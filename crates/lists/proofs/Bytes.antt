-- Laws of numbers in bytes, and of runs of bytes compared.
use Prim.Native.Nat.{ℕ, zero, suc, ◌+◌, ◌*◌, ◌/◌, ◌%◌, ◌^◌, ◌≤◌, ◌<◌}
use mathlib.Core.Path.{◌≡◌, refl, ap, sym, ◌∙◌}
use mathlib.Core.List.{List, [], ◌∷◌, ◌++◌, append_assoc, append-nil}
use mathlib.Core.Bool.{true, false}
use mathlib.Core.Bool as Bool
use mathlib.Core.Logic.{⊎_elim}
use native.Mathlib.Omega.{arith}
use native.Mathlib.Numerals.{add-one}
use native.Mathlib.Decide.{dec_lt}
use native.Mathlib.Nat.{add-zero, add-suc, add_assoc, mul_assoc, pow-suc, pow-succ', div-one, div-div-eq-div-mul, div-add-mod', lt_trans, eq-or-lt_of_le, le_of_suc-le-suc}
use lib.ListN.{length, take, drop, get_or, length-append, length-take, length-drop, get_or-eq_default, get_or-append}
use lib.Seq.{get_or-take, get_or-drop, get_or_at, get_or-append-add, ext_get_or, take-suc, drop_at}
use lib.Dec.{ltb}
use borrow.Author.Tests.{eqb-true, eq-eqb, ltb-true, ltb-false, lt-ltb, le-ltb}
use mir.Val.{Fits}
use mir.Syntax.{w8}
use Rattle.lists.specs.Bytes.{be, be_bytes, same_bytes, less_bytes}
use Rattle.lists.proofs.Tests.{split, clashes, and_true, or_false, or_true, eqb_sym}

-- ---- a number of more bytes: n bytes and m more, from any place on (`be_join 2 2`, `be_join 4 4`); one more, as a loop counts
pub be_join : (n m : ℕ) (s : List ℕ) (at : ℕ) → be (n + m) s at ≡ be n s at * 256 ^ m + be m s (at + n)
unfolding be
be_join n zero s at = rw (add-zero) (omega arith)
be_join n (suc m) s at =
    rw (add-suc, be_join n m s at, pow-suc, ← mul_assoc, add_assoc at n m) (omega arith)

pub be_step : (n : ℕ) (s : List ℕ) (at : ℕ) → be (n + 1) s at ≡ be n s at * 256 + get_or s (at + n) 0
unfolding be
be_step n s at = rw add-one

pub be_2 : (s : List ℕ) (at : ℕ) → be 2 s at ≡ get_or s at 0 * 256 + get_or s (at + 1) 0
unfolding be
be_2 s at = rw add-zero (omega arith)

-- past the end all bytes count as 0; bytes below 256 make a number below 256 ^ n
pub be_out : (n : ℕ) (s : List ℕ) (at : ℕ) → length s ≤ at → be n s at ≡ 0
unfolding be
be_out zero s at h = refl
be_out (suc n) s at h = rw (be_out n s at h, get_or-eq_default s 0 {n = at + n} (omega arith))

pub be_below : (s : List ℕ) (at : ℕ) → ((k : ℕ) → Fits w8 (get_or s k 0)) → (n : ℕ) → be n s at < 256 ^ n
unfolding be
be_below s at h zero = omega arith
be_below s at h (suc n) = omega (arith, be_below s at h n, h (at + n))

-- ---- a number depends on its own bytes alone: in a part, or in a list put together, it is the same
pub be_same : (n : ℕ) (s t : List ℕ) (at to : ℕ) → ((k : ℕ) → k < n → get_or s (at + k) 0 ≡ get_or t (to + k) 0) → be n s at ≡ be n t to
unfolding be
be_same zero s t at to h = refl
be_same (suc n) s t at to h = rw (be_same n s t at to (λ k l. h k (omega arith)), h n (omega arith))

module _ (n : ℕ) (xs : List ℕ) (at : ℕ) where
  pub be_drop : (k : ℕ) → be n (drop k xs) at ≡ be n xs (k + at)
  be_drop k = be_same n (drop k xs) xs at (k + at) (λ i h. get_or-drop k xs (at + i) 0 ∙ rw (← add_assoc))

  pub be_take : (m : ℕ) → at + n ≤ m → be n (take m xs) at ≡ be n xs at
  be_take m h = be_same n (take m xs) xs at at (λ i l. get_or-take m xs (at + i) 0 (omega arith))

  pub be_first : (ys : List ℕ) → at + n ≤ length xs → be n (xs ++ ys) at ≡ be n xs at
  be_first ys h = be_same n (xs ++ ys) xs at at (λ i l. get_or-append xs ys 0 (at + i) (omega arith))

  pub be_second : (ys : List ℕ) → be n (xs ++ ys) (length xs + at) ≡ be n ys at
  be_second ys = be_same n (xs ++ ys) ys (length xs + at) at (λ i l. rw add_assoc (get_or-append-add xs ys (at + i) 0))

-- ---- the bytes of a number
pub bytes_length : (n x : ℕ) → length (be_bytes n x) ≡ n
unfolding be_bytes
bytes_length zero x = refl
bytes_length (suc n) x = length-append (be_bytes n (x / 256)) _ ∙ rw (bytes_length n (x / 256), add-one)

below_snoc : (xs : List ℕ) (y k : ℕ) → ((i : ℕ) → get_or xs i 0 < 256) → y < 256 → get_or (xs ++ (y ∷ [])) k 0 < 256
below_snoc [] y zero f h = h
below_snoc [] y (suc k) f h = omega arith
below_snoc (x ∷ xs) y zero f h = f 0
below_snoc (x ∷ xs) y (suc k) f h = below_snoc xs y k (λ i. f (suc i)) h

pub bytes_below : (n x k : ℕ) → get_or (be_bytes n x) k 0 < 256
unfolding be_bytes
bytes_below zero x k = omega arith
bytes_below (suc n) x k = below_snoc (be_bytes n (x / 256)) (x % 256) k (λ i. bytes_below n (x / 256) i) (omega arith)

-- n bytes, and the m after them, which are those of the number's rest by 256 ^ m
bytes_more : (m q r : ℕ) → be_bytes m (q * 256 ^ m + r) ≡ be_bytes m r
unfolding be_bytes
bytes_more zero q r = refl
bytes_more (suc m) q r =
    let e : q * 256 ^ suc m ≡ q * 256 ^ m * 256 = rw (pow-suc, mul_assoc) in
    let f : (q * 256 ^ suc m + r) / 256 ≡ q * 256 ^ m + r / 256 = omega arith in
    let g : (q * 256 ^ suc m + r) % 256 ≡ r % 256 = omega arith in
    rw (f, g, bytes_more m q (r / 256))

bytes_split : (n m x : ℕ) → be_bytes (n + m) x ≡ be_bytes n (x / 256 ^ m) ++ be_bytes m x
unfolding be_bytes
bytes_split n zero x = rw (add-zero, div-one, append-nil)
bytes_split n (suc m) x =
    rw (add-suc, bytes_split n m (x / 256), div-div-eq-div-mul, pow-succ', append_assoc)

pub bytes_join : (n m x : ℕ) → be_bytes (n + m) x ≡ be_bytes n (x / 256 ^ m) ++ be_bytes m (x % 256 ^ m)
bytes_join n m x =
    bytes_split n m x
    ∙ ap (λ l. be_bytes n (x / 256 ^ m) ++ l) (ap (be_bytes m) (sym (div-add-mod' x (256 ^ m))) ∙ bytes_more m (x / 256 ^ m) (x % 256 ^ m))

-- there and back
pub be_bytes_lem : (n x : ℕ) → x < 256 ^ n → be n (be_bytes n x) 0 ≡ x
unfolding be be_bytes
be_bytes_lem zero x h = omega arith
be_bytes_lem (suc n) x h =
    let l = bytes_length n (x / 256) in
    let e = be_first n (be_bytes n (x / 256)) 0 (x % 256 ∷ []) (omega arith) ∙ be_bytes_lem n (x / 256) (omega arith) in
    let f = get_or_at (be_bytes n (x / 256)) (x % 256) [] 0 (0 + n) (omega arith) in
    omega arith

pub bytes_be : (n : ℕ) (s : List ℕ) (at : ℕ) → ((k : ℕ) → Fits w8 (get_or s k 0)) → at + n ≤ length s → be_bytes n (be n s at) ≡ take n (drop at s)
unfolding be be_bytes
bytes_be zero s at f h = refl
bytes_be (suc n) s at f h =
    let p : (be n s at * 256 + get_or s (at + n) 0) / 256 ≡ be n s at = omega (arith, f (at + n)) in
    let q : (be n s at * 256 + get_or s (at + n) 0) % 256 ≡ get_or s (at + n) 0 = omega (arith, f (at + n)) in
    let l : n < length (drop at s) = simp length-drop (omega arith) in
    rw (p, q, bytes_be n s at f (omega arith), ← get_or-drop at s n 0) (sym (take-suc (drop at s) n 0 l))

-- ---- two runs: the same in no byte; in one more; not, where they differ at one; which is: in each byte
pub same_none : (a b : List ℕ) → same_bytes 0 a b ≡ true
unfolding same_bytes
same_none a b = refl

module _ (a b : List ℕ) where
  pub same_more : (i : ℕ) → same_bytes i a b ≡ true → get_or a i 0 ≡ get_or b i 0 → same_bytes (i + 1) a b ≡ true
  unfolding same_bytes
  same_more i h e = rw (add-one, h, eq-eqb _ _ e)

  pub same_at : (n k : ℕ) → same_bytes n a b ≡ true → k < n → get_or a k 0 ≡ get_or b k 0
  unfolding same_bytes
  same_at zero k e h = absurd (omega arith)
  same_at (suc n) k e h =
      let p = and_true (same_bytes n a b) _ e in
      ⊎_elim (λ q. rw q (eqb-true _ _ p.1)) (λ l. same_at n k p.0 l) (eq-or-lt_of_le (le_of_suc-le-suc h))

  pub same_all : (n : ℕ) → ((k : ℕ) → k < n → get_or a k 0 ≡ get_or b k 0) → same_bytes n a b ≡ true
  unfolding same_bytes
  same_all zero f = refl
  same_all (suc n) f = rw (same_all n (λ k h. f k (omega arith)), eq-eqb _ _ (f n (omega arith)))

  pub same_differ : (i n : ℕ) → (get_or a i 0 ≡ get_or b i 0 → ⊥) → i < n → same_bytes n a b ≡ false
  same_differ i n e h = split (same_bytes n a b) (λ p. absurd (e (same_at n i p h))) (λ p. p)

  pub same_less : (m n : ℕ) → m ≤ n → same_bytes n a b ≡ true → same_bytes m a b ≡ true
  same_less m n h e = same_all m (λ k l. same_at n k e (omega arith))

  pub same_sym : (n : ℕ) → same_bytes n a b ≡ same_bytes n b a
  unfolding same_bytes
  same_sym zero = refl
  same_sym (suc n) = rw (same_sym n, eqb_sym (get_or a n 0))

  -- as lists: the first n elements are equal
  pub same_take : (n : ℕ) → n ≤ length a → n ≤ length b → same_bytes n a b ≡ true → take n a ≡ take n b
  same_take n h k e =
      ext_get_or
      0
      (take n a)
      (take n b)
      (simp length-take (omega arith))
      (λ i l. let j : i < n = omega (arith, l, length-take n a) in rw (get_or-take n a i 0 j, get_or-take n b i 0 j) (same_at n i e j))

  pub take_same : (n : ℕ) → take n a ≡ take n b → same_bytes n a b ≡ true
  take_same n e = same_all n (λ k h. sym (get_or-take n a k 0 h) ∙ rw e (get_or-take n b k 0 h))

pub same_refl : (n : ℕ) (a : List ℕ) → same_bytes n a a ≡ true
same_refl n a = same_all a a n (λ k h. refl)

pub same_trans : (n : ℕ) (a b c : List ℕ) → same_bytes n a b ≡ true → same_bytes n b c ≡ true → same_bytes n a c ≡ true
same_trans n a b c e f = same_all a c n (λ k h. same_at a b n k e h ∙ same_at b c n k f h)

-- ---- one run less than another: the first difference decides, whatever follows
abbrev pub FirstLess : ℕ → List ℕ → List ℕ → Type 0
FirstLess n a b = (i : ℕ) × (i < n) × (same_bytes i a b ≡ true) × (get_or a i 0 < get_or b i 0)

module _ (a b : List ℕ) where
  pub same_not_less : (n : ℕ) → same_bytes n a b ≡ true → less_bytes n a b ≡ false
  unfolding same_bytes less_bytes
  same_not_less zero e = refl
  same_not_less (suc n) e =
      let p = and_true (same_bytes n a b) _ e in
      let q : get_or a n 0 ≡ get_or b n 0 = eqb-true _ _ p.1 in
      rw (same_not_less n p.0, le-ltb (get_or a n 0) (get_or b n 0) (omega arith), p.0)

  pub less_at : (i n : ℕ) → same_bytes i a b ≡ true → (get_or a i 0 ≡ get_or b i 0 → ⊥) → i < n → less_bytes n a b ≡ ltb (get_or a i 0) (get_or b i 0)
  unfolding less_bytes
  less_at i zero e d h = absurd (omega arith)
  less_at i (suc n) e d h =
      ⊎_elim
      (λ q. rw (← q, same_not_less i e, e))
      (λ l. rw (less_at i n e d l, same_differ a b i n d l, Bool.or-false))
      (eq-or-lt_of_le (le_of_suc-le-suc h))

  -- a run that is less has a first byte that differs
  pub less_first : (n : ℕ) → less_bytes n a b ≡ true → FirstLess n a b
  unfolding less_bytes
  less_first zero e = clashes e refl
  less_first (suc n) e =
      ⊎_elim
      (λ p. let r = less_first n p in (r.0, omega (arith, r.1), r.2, r.3))
      (λ p. let r = and_true (same_bytes n a b) _ p in (n, omega arith, r.0, ltb-true _ _ r.1))
      (or_true (less_bytes n a b) _ e)

  pub first_less : (n i : ℕ) → i < n → same_bytes i a b ≡ true → get_or a i 0 < get_or b i 0 → less_bytes n a b ≡ true
  first_less n i h e l = less_at i n e (λ q. omega arith) h ∙ lt-ltb _ _ l

  pub less_neither : (n : ℕ) → less_bytes n a b ≡ false → less_bytes n b a ≡ false → same_bytes n a b ≡ true
  unfolding less_bytes same_bytes
  less_neither zero e f = refl
  less_neither (suc n) e f =
      let p = or_false (less_bytes n a b) _ e in
      let q = or_false (less_bytes n b a) _ f in
      let s = less_neither n p.0 q.0 in
      let x : get_or b n 0 ≤ get_or a n 0 = ltb-false _ _ (rw s at p.1) in
      let y : get_or a n 0 ≤ get_or b n 0 = ltb-false _ _ (rw (← same_sym a b n, s) at q.1) in
      rw (s, eq-eqb (get_or a n 0) (get_or b n 0) (omega arith))

pub less_not_same : (n : ℕ) (a b : List ℕ) → less_bytes n a b ≡ true → same_bytes n a b ≡ false
less_not_same n a b e = split (same_bytes n a b) (λ p. clashes e (same_not_less a b n p)) (λ p. p)

pub same_unless : (n : ℕ) (a b : List ℕ) → less_bytes n a b ≡ false → same_bytes n a b ≡ Bool.not (less_bytes n b a)
same_unless n a b e =
    split (less_bytes n b a) (λ p. rw p (same_sym a b n ∙ less_not_same n b a p)) (λ p. rw p (less_neither a b n e p))

pub less_irrefl : (n : ℕ) (a : List ℕ) → less_bytes n a a ≡ false
less_irrefl n a = same_not_less a a n (same_refl n a)

pub less_trans : (n : ℕ) (a b c : List ℕ) → less_bytes n a b ≡ true → less_bytes n b c ≡ true → less_bytes n a c ≡ true
less_trans n a b c e f = go (less_first a b n e) (less_first b c n f)
  where
    go : FirstLess n a b → FirstLess n b c → less_bytes n a c ≡ true
    go (i, hi, si, li) (j, hj, sj, lj) = by (dec_lt i j) (dec_lt j i)
      where
        by : Dec (i < j) → Dec (j < i) → less_bytes n a c ≡ true
        by (yes h) k = first_less a c n i hi (same_trans i a b c si (same_less b c i j (omega arith) sj)) (omega (arith, li, same_at b c j i sj h))
        by (no h) (yes k) = first_less a c n j hj (same_trans j a b c (same_less a b j i (omega arith) si) sj) (omega (arith, lj, same_at a b i j si k))
        by (no h) (no k) =
            let q : j ≡ i = omega arith in
            first_less a c n i hi (same_trans i a b c si (rw q at sj)) (lt_trans li (rw q at lj))

-- a number whose bytes stand at a place is read back there
pub be_at : (n x at : ℕ) (p q : List ℕ) → length p ≡ at → x < 256 ^ n → be n (p ++ (be_bytes n x ++ q)) at ≡ x
be_at n x at p q l h =
    let e = rw (drop_at p (be_bytes n x ++ q) at l, add-zero) at (be_drop n (p ++ (be_bytes n x ++ q)) 0 at) in
    let f = be_first n (be_bytes n x) 0 q (omega (arith, bytes_length n x)) in
    sym e ∙ (f ∙ be_bytes_lem n x h)
