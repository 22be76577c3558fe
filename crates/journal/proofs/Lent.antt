-- A lent buffer: how it is filled, what is told of its bytes, and what a call leaves in it.
use Prim.Native.Nat.{ℕ, ◌+◌, ◌-◌, ◌≤◌, ◌<◌}
use mathlib.Core.Path.{◌≡◌, refl, ap, ap₂, sym, ◌∙◌}
use mathlib.Core.List.{List, [], ◌∷◌, ◌++◌}
use mathlib.Core.Bool.{Bool, true, false, not}
use native.Mathlib.Omega.{arith}
use lib.ListN.{length, take, drop, length-replicate}
use lib.Dec.{eqb, ltb, leb}
use borrow.Author.Tests.{ltb-false}
use Rattle.paper.specs.Standing.{standing}
use Rattle.paper.specs.Orders.{reading_of}
use Rattle.paper.specs.Reports.{reach_bytes}
use Rattle.lists.specs.Lists.{all, place_of}
use Rattle.lists.proofs.Tests.{both, split}
use Rattle.lists.proofs.Pages.{rest_is}
use Rattle.std.specs.Prelude.{Option, Some, None}
use Rattle.std.specs.List.{position}
use Rattle.journal.proofs.Runs.{position_none, position_some}
use Rattle.paper.specs.Outcomes.{Decision, refuse, check, good, in_room, decide_reading, owed, decide_command, decide_reach, outcome_of, buffer_after}
use Rattle.paper.specs.declared.outcomes.Outcome.{Outcome}
use Rattle.paper.specs.declared.state.Coordinator.{Coordinator}
use Rattle.journal.specs.Texts.{decimal_text, kept_text, spoiled_text, end_text}
use Rattle.journal.specs.Replay.{lent, is_lent, others_text, untouched_text, lent_text, after_call}

-- ---- the first byte that is not as it was lent
abbrev pub is_spoiled : ℕ → Bool
is_spoiled b = not (is_lent b)

module _ {A : Type 0} (p : A → Bool) where
  all_pass : (l : List A) → length l ≤ place_of (λ x. not (p x)) l → all p l ≡ true
  unfolding place_of
  all_pass [] h = refl
  all_pass (x ∷ l) h =
      split (p x) (λ t. let k : length l ≤ place_of (λ y. not (p y)) l = omega (arith, rw t at h) in rw t (all_pass l k)) (λ t. absurd (omega (arith, rw t at h)))

  one_fails : (l : List A) → place_of (λ x. not (p x)) l < length l → all p l ≡ false
  unfolding place_of
  one_fails [] h = absurd (omega arith)
  one_fails (x ∷ l) h =
      split (p x) (λ t. let k : place_of (λ y. not (p y)) l < length l = omega (arith, rw t at h) in rw t (one_fails l k)) (λ t. rw t)

-- what is told of a buffer, by the place that the code found
module _ (s : List ℕ) {o : Option ℕ} (e : o ≡ position is_spoiled s) where
  kept : o ≡ None → all is_lent s ≡ true
  kept h = all_pass is_lent s (position_none is_spoiled s (sym e ∙ h))

  spoiled : {k : ℕ} → o ≡ Some k → (all is_lent s ≡ false) × (place_of is_spoiled s ≡ k)
  spoiled h = let at = position_some is_spoiled s (sym e ∙ h) in (one_fails is_lent s at.1, at.0)

module _ (n : ℕ) (s : List ℕ) {o : Option ℕ} (e : o ≡ position is_spoiled (take (length s - n) (drop n s))) where
  behind : o ≡ position is_spoiled (drop n s)
  behind = e ∙ ap (position is_spoiled) (rest_is s n)

  pub others_kept : o ≡ None → others_text n s ≡ kept_text
  unfolding others_text
  others_kept h = rw (kept (drop n s) behind h)

  pub others_spoiled : {k : ℕ} → o ≡ Some k → others_text n s ≡ spoiled_text ++ decimal_text (n + k)
  unfolding others_text
  others_spoiled h = let at = spoiled (drop n s) behind h in rw (at.0, at.1)

module _ (s : List ℕ) {o : Option ℕ} (e : o ≡ position is_spoiled s) where
  pub untouched_kept : o ≡ None → untouched_text s ≡ []
  unfolding untouched_text
  untouched_kept h = rw (kept s e h)

  pub untouched_spoiled : {k : ℕ} → o ≡ Some k → untouched_text s ≡ spoiled_text ++ decimal_text k
  unfolding untouched_text
  untouched_spoiled {k} h =
      let at = spoiled s e h in
      let z : 0 + place_of is_spoiled s ≡ k = omega (arith, at.1) in rw (at.0, z)

-- ---- "the lent buffer is shorter than the bytes to deliver" is refused: what is delivered has room
abbrev HasRoom : Coordinator → ℕ → Decision → Type 0
HasRoom c room d = (outcome_of c d).delivered ≤ room

room_kept : (c : Coordinator) (room : ℕ) (d : Decision) → HasRoom c room (in_room room d)
room_kept c room (refuse n) = omega arith
room_kept c room (check k) = omega arith
room_kept c room (good es bytes) =
    split (ltb room (length bytes)) (λ t. rw t (omega arith)) (λ t. rw t (omega (arith, ltb-false room (length bytes) t)))

reach_room : (c : Coordinator) (room : ℕ) → HasRoom c room (decide_reach c room)
unfolding decide_reach
reach_room c room =
    both (HasRoom c room) (not (standing c)) (omega arith) (room_kept c room (good [] (reach_bytes c)))

command_room : (c : Coordinator) (i : ℕ) (cdb list : List ℕ) (random room : ℕ) → HasRoom c room (decide_command c i cdb list random room)
unfolding decide_command
command_room c i cdb list random room =
    both (HasRoom c room) (not (standing c)) (omega arith)
    (both (HasRoom c room) (leb c.initiators.count i) (omega arith)
    (both (HasRoom c room) (not (eqb (length cdb) 16)) (omega arith)
    (both (HasRoom c room) (not (eqb (length list) (owed cdb))) (omega arith)
    (room_kept c room (decide_reading c i random (reading_of cdb list))))))

pub reach_fits : (c : Coordinator) (room : ℕ) {o : Outcome} → o ≡ outcome_of c (decide_reach c room) → o.delivered ≤ room
reach_fits c room e = omega (arith, ap (λ (q : Outcome). q.delivered) e, reach_room c room)

pub command_fits : (c : Coordinator) (i : ℕ) (cdb list : List ℕ) (random room : ℕ) {o : Outcome} → o ≡ outcome_of c (decide_command c i cdb list random room) → o.delivered ≤ room
command_fits c i cdb list random room e =
    omega (arith, ap (λ (q : Outcome). q.delivered) e, command_room c i cdb list random room)

-- ---- a call that was lent a buffer of n bytes
module _ (c : Coordinator) (decide : ℕ → Decision) (n : ℕ) {o : Outcome} {filled after : List ℕ} (f : filled ≡ lent n) (e : o ≡ outcome_of c (decide (length filled))) (b : after ≡ buffer_after (decide (length filled)) filled) where
  lent_size : length filled ≡ n
  lent_size = ap (λ (s : List ℕ). length s) f ∙ length-replicate n 0xA5

  outcome_so : o ≡ outcome_of c (decide n)
  outcome_so = e ∙ ap (λ (m : ℕ). outcome_of c (decide m)) lent_size

  pub call_state : o.state ≡ (outcome_of c (decide n)).state
  call_state = ap (λ (q : Outcome). q.state) outcome_so

  pub call_text : (word : List ℕ) → (word ++ lent_text o.answer o.delivered after) ++ end_text ≡ (after_call c word (decide n) n).text
  call_text word =
      let so : after ≡ buffer_after (decide n) (lent n) = b ∙ ap₂ (λ (m : ℕ) (s : List ℕ). buffer_after (decide m) s) lent_size f in
      ap₂ (λ (q : Outcome) (s : List ℕ). (word ++ lent_text q.answer q.delivered s) ++ end_text) outcome_so so
