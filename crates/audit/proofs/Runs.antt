-- Runs of one size: the first and the rest, as std's chunks pass them.
use Prim.Native.Nat.{ℕ, zero, suc, ◌+◌, ◌*◌, ◌/◌, ◌≤◌, ◌<◌}
use mathlib.Core.Path.{◌≡◌, ap, ap₂, ◌∙◌}
use mathlib.Core.List.{List, [], ◌∷◌, ◌++◌, map, append-nil}
use mathlib.Core.Logic.{⊎_elim}
use native.Mathlib.Omega.{arith}
use native.Mathlib.Nat.{mul_comm, mul-suc, div-mul-le_self, mul-div_cancel_left, add-div_left, div-eq_of_lt, div-le_self}
use native.Mathlib.Numerals.{suc-eq-add-one}
use denote.Ref.{Bor}
use lib.ListN.{length, get_or, take, drop, length-append, length-drop}
use lib.Seq.{length-take-le, take_at, drop_at}
use Rattle.std.specs.Prelude.{Some, None}
use Rattle.std.specs.Iterator.{AlwaysYields}
use Rattle.std.specs.Slice.Iter.{chunks_exact_rest, chunks_exact_size, chunks_exact_steps}
use Rattle.std.specs.declared.slice.ChunksExact.{ChunksExact}
use Rattle.std.proofs.lemmas.Iterator.{YieldsList}
use Rattle.lists.specs.Lists.{◌∈◌, gather, parts}
use Rattle.lists.proofs.Members.{in_cons}
use Rattle.lists.proofs.Parts.{length_parts, get_or_parts, length_gather, parts_gather}
use Rattle.audit.specs.Ledger.{runs_of}

-- each part has the size, where there are so many elements
part_size : (size n : ℕ) (s : List ℕ) {x : List ℕ} → size * n ≤ length s → x ∈ parts size n s → length x ≡ size
unfolding parts
part_size size zero s h m = elim m [ ]
part_size size (suc n) s h m =
    let g : size * n + size ≤ length s = rw mul-suc at h in
    ⊎_elim
    (λ e. rw e (length-take-le size s (omega arith)))
    (λ k. part_size size n (drop size s) (omega (arith, length-drop size s)) k)
    (in_cons m)

pub run_size : (size : ℕ) (s : List ℕ) {x : List ℕ} → x ∈ runs_of size s → length x ≡ size
run_size size s m =
    part_size size (length s / size) s (rw (mul_comm size (length s / size)) (div-mul-le_self (length s) size)) m

-- the run at a place
abbrev pub run_at : ℕ → List ℕ → ℕ → List ℕ
run_at size s k = take size (drop (k * size) s)

pub run_at_lem : (size : ℕ) (s : List ℕ) {k : ℕ} → k < length s / size → get_or (runs_of size s) k [] ≡ run_at size s k
run_at_lem size s {k} h = get_or_parts size (length s / size) s k [] h ∙ rw (mul_comm k size)

pub few_runs : (size : ℕ) (s : List ℕ) → length (runs_of size s) ≤ length s
few_runs size s = omega (arith, length_parts size (length s / size) s, div-le_self (length s) size)

-- ---- a run and the rest, or fewer bytes than a run has
pub run_first : (size : ℕ) (x rest : List ℕ) → 0 < size → length x ≡ size → runs_of size (x ++ rest) ≡ x ∷ runs_of size rest
unfolding parts
run_first size x rest some long =
    let more : length (x ++ rest) / size ≡ length rest / size + 1 =
    ap (λ n. n / size) (omega (arith, length-append x rest, long)) ∙ add-div_left (length rest) some in
    rw (more, ← suc-eq-add-one)
    (ap₂ (λ (y : List ℕ) (t : List ℕ). y ∷ parts size (length rest / size) t) (take_at x rest size long) (drop_at x rest size long))

pub runs_none : (size : ℕ) (rest : List ℕ) → length rest < size → runs_of size rest ≡ []
unfolding parts
runs_none size rest h = rw (div-eq_of_lt h)

-- a step of std's chunks takes the first run; they end where there is none
module _ (size : ℕ) (s t : ChunksExact ℕ) (some : 0 < size) (e : chunks_exact_size s ≡ size) where
  pub chunk_next : (x : Bor (List ℕ)) → chunks_exact_steps s (Some x) t → (chunks_exact_size t ≡ size) × (length x.now ≡ size) × (runs_of size (chunks_exact_rest s) ≡ x.now ∷ runs_of size (chunks_exact_rest t))
  chunk_next x step =
      (step.0 ∙ e, step.1.1 ∙ e, ap (runs_of size) step.1.0 ∙ run_first size x.now (chunks_exact_rest t) some (step.1.1 ∙ e))

  pub chunks_end : chunks_exact_steps s None t → runs_of size (chunks_exact_rest s) ≡ []
  chunks_end step = runs_none size (chunks_exact_rest s) (omega (arith, step.1.0))

yields : (size : ℕ) (l : List (List ℕ)) (s : ChunksExact ℕ) → 0 < size → chunks_exact_size s ≡ size → runs_of size (chunks_exact_rest s) ≡ l → AlwaysYields chunks_exact_steps (λ x. x.now) s l
yields size [] s some e is = λ x t step. let first = (chunk_next size s t some e x step).2 in cc
yields size (y ∷ l) s some e is = (
  (λ t step. let none = chunks_end size s t some e step in cc),
  λ x t step.
      let next = chunk_next size s t some e x step in
      let first = next.2 in
      ((cc), yields size l t some next.0 (cc)),
)

-- so they are the runs
pub chunks_are_runs : {s : ChunksExact ℕ} (size : ℕ) (bytes : List ℕ) → 0 < size → chunks_exact_size s ≡ size → chunks_exact_rest s ≡ bytes → YieldsList chunks_exact_steps (λ x. x.now) s (runs_of size bytes)
chunks_are_runs {s} size bytes some n e =
    record { runs = yields size (runs_of size bytes) s some n (ap (runs_of size) e) }

-- records of one size that were laid one after the other are the runs
pub runs_laid : {A : Type 0} (f : A → List ℕ) (size : ℕ) (xs : List A) → 0 < size → ((x : A) → x ∈ xs → length (f x) ≡ size) → runs_of size (gather f xs) ≡ map f xs
runs_laid f size xs h e =
    let many : length (gather f xs) / size ≡ length xs = rw (length_gather f size xs e) (mul-div_cancel_left (length xs) h) in
    let laid : parts size (length xs) (gather f xs) ≡ map f xs = rw append-nil at (parts_gather f size xs [] e) in
    rw many laid
