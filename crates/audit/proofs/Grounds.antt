-- The grounds that stand and those that end: how many bytes each takes, and which case of its definition each exit of the code is.
use Prim.Native.Nat.{ℕ, zero, suc, ◌-◌, ◌≤◌}
use mathlib.Core.Path.{◌≡◌, refl, sym, ap, ap₂, ◌∙◌}
use mathlib.Core.List.{List, [], ◌∷◌, ◌++◌}
use Rattle.std.specs.Prelude.{Option, Some, None}
use mathlib.Core.Bool.{◌||◌}
use native.Mathlib.Omega.{arith}
use native.Mathlib.Nat.{sub-zero, suc-sub-suc, zero-sub}
use lib.ListN.{length, take, drop, length-append, length-drop}
use lib.Seq.{take_all, take-nil, drop-nil}
use lib.Dec.{ltb}
use Rattle.lists.specs.Bytes.{be}
use Rattle.lists.specs.Lists.{find, any}
use Rattle.lists.proofs.Tests.{both}
use Rattle.lists.proofs.Bytes.{bytes_length}
use Rattle.lists.proofs.Deliver.{take_deliver}
use Rattle.lists.proofs.Members.{find_in}
use Rattle.paper.specs.Outcomes.{Decision, refuse, check, good, decide_reach, outcome_of, buffer_after}
use Rattle.paper.specs.declared.outcomes.Outcome.{Outcome}
use Rattle.paper.specs.declared.state.Coordinator.{Coordinator}
use Rattle.journal.proofs.Lent.{reach_fits}
use Rattle.audit.specs.Ledger.{deed_bytes, runs_of, same_row, of_unit, or_begun, held_over, stands_by, ends_by, replied_bytes, rows_after}
use Rattle.audit.specs.declared.ledger.Deed.{Deed}
use Rattle.audit.proofs.Runs.{run_size}

-- ---- sizes
pub deed_size : (d : Deed) → length (deed_bytes d) ≡ 10
deed_size d = rw (bytes_length 8 d.line)

pub held_size : (standing deed row : List ℕ) → length deed ≡ 10 → length row ≡ 4 → length (held_over (runs_of 14 standing) deed row) ≡ 14
unfolding held_over
held_size standing deed row d r = go (find (same_row row) (runs_of 14 standing)) refl
  where
    go : (o : Option (List ℕ)) → find (same_row row) (runs_of 14 standing) ≡ o → length (or_begun (row ++ deed) o) ≡ 14
    go None q = omega (arith, length-append row deed)
    go (Some e) q = run_size 14 standing (find_in (same_row row) (runs_of 14 standing) q).0

pub stand_most : (unit : ℕ) (standing deed row : List ℕ) → length deed ≡ 10 → length row ≡ 4 → length (stands_by unit (runs_of 14 standing) deed row) ≤ 14
unfolding stands_by
stand_most unit standing deed row d r =
    both (λ (l : List ℕ). length l ≤ 14) (of_unit unit row) (omega (arith, held_size standing deed row d r)) (omega arith)

pub end_most : (rows : List (List ℕ)) (deed : List ℕ) (to : ℕ) (e : List ℕ) → length deed ≡ 10 → length e ≡ 14 → length (ends_by rows deed to e) ≤ 24
unfolding ends_by
end_most rows deed to e d h =
    both (λ (l : List ℕ). length l ≤ 24) (any (same_row e) rows || ltb to (be 8 e 6)) (omega arith) (omega (arith, length-append e deed))

-- ---- a ground that stood before, or begins
pub held_is : (standing deed row : List ℕ) {o : Option (List ℕ)} → o ≡ find (same_row row) (runs_of 14 standing) → or_begun (row ++ deed) o ≡ held_over (runs_of 14 standing) deed row
unfolding held_over
held_is standing deed row e = ap (or_begun (row ++ deed)) e

pub held_long : (standing row : List ℕ) {e : List ℕ} → Some e ≡ find (same_row row) (runs_of 14 standing) → length e ≡ 14
held_long standing row is = run_size 14 standing (find_in (same_row row) (runs_of 14 standing) (sym is)).0

-- ---- what a decision delivers is read back from the buffer
pub reply_is : (c : Coordinator) (d : Decision) (buffer : List ℕ) → (outcome_of c d).delivered ≤ length buffer → take (outcome_of c d).delivered (buffer_after d buffer) ≡ replied_bytes d
reply_is c (refuse n) buffer h = refl
reply_is c (check k) buffer h = refl
reply_is c (good es bytes) buffer h =
    take_deliver bytes buffer (length bytes) (omega arith) h ∙ take_all (length bytes) bytes (omega arith)

-- ---- what is in front of a place, from an earlier one on
pub drop_front : (n m : ℕ) (l : List ℕ) → drop n (take m l) ≡ take (m - n) (drop n l)
drop_front zero m l = rw (sub-zero m)
drop_front (suc n) zero l = rw (zero-sub (suc n))
drop_front (suc n) (suc m) [] = rw (take-nil, drop-nil)
drop_front (suc n) (suc m) (x ∷ l) = rw (suc-sub-suc m n) (drop_front n m l)

-- so the rows of the reach list are read back from behind its header
module _ (c : Coordinator) (buffer after : List ℕ) {o : Outcome} (long : length buffer ≡ 65536) (e : o ≡ outcome_of c (decide_reach c (length buffer))) (b : after ≡ buffer_after (decide_reach c (length buffer)) buffer) where
  pub reach_rows_lem : drop 8 (take o.delivered after) ≡ rows_after c
  unfolding rows_after
  reach_rows_lem =
      let d = decide_reach c (length buffer) in
      let read = ap₂ (λ (q : Outcome) (s : List ℕ). take q.delivered s) e b ∙ reply_is c d buffer (reach_fits c (length buffer) refl) in
      ap (drop 8) (read ∙ ap (λ m. replied_bytes (decide_reach c m)) long)

  pub reach_buffer : after ≡ buffer_after (decide_reach c 65536) buffer
  reach_buffer = b ∙ ap (λ m. buffer_after (decide_reach c m) buffer) long

-- which are no more than the buffer has room for
replied_size : (c : Coordinator) (d : Decision) → length (replied_bytes d) ≡ (outcome_of c d).delivered
replied_size c (refuse n) = refl
replied_size c (check k) = refl
replied_size c (good es bytes) = refl

pub rows_few : (c : Coordinator) → length (rows_after c) ≤ 65536
unfolding rows_after
rows_few c =
    let d = decide_reach c 65536 in
    omega (arith, length-drop 8 (replied_bytes d), replied_size c d, reach_fits c 65536 {o = outcome_of c d} refl)
