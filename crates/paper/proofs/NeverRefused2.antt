-- Refusal 2 is given for a state that breaks a standing rule and for no other, so that it never arises in a run from an accepted setup.
use Prim.Native.Nat.{ℕ}
use mathlib.Core.Path.{◌≡◌, refl, ap}
use mathlib.Core.Bool.{Bool, true, false, cond, not}
use mathlib.Core.List.{List, []}
use Rattle.std.specs.Prelude.{Option, Some, None}
use native.Mathlib.Omega.{arith}
use lib.ListN.{length}
use lib.Dec.{eqb, leb, ltb}
use Rattle.lists.proofs.Tests.{both, clashes}
use Rattle.paper.specs.Standing.{standing}
use Rattle.paper.specs.Orders.{Reading, wrong, order, reading_of}
use Rattle.paper.specs.Effects.{Effect}
use Rattle.paper.specs.InForce.{in_force, effects}
use Rattle.paper.specs.Commands.{Verdict, fails, passes, tests}
use Rattle.paper.specs.Tables.{units_of}
use Rattle.paper.specs.Grounds.{opens_by}
use Rattle.paper.specs.Rows.{rows_of, row_with, pending_has}
use Rattle.paper.specs.Reports.{reach_bytes}
use Rattle.paper.specs.Outcomes.{Decision, refuse, check, good, reply_to, judged, decide_order, decide_reading, owed, in_room, decide_command, decide_link, decide_reach, outcome_of, opens_or, opens, routed}
use Rattle.paper.specs.declared.state.Row.{Row}
use Rattle.paper.specs.declared.state.Coordinator.{Coordinator}
use Rattle.paper.specs.declared.answers.Refusal.{Refusal}
use Rattle.paper.specs.declared.answers.Refusal.TheVariants.{BadSetup, BadState, NoInitiator, BadCdb, BadParameters, ShortBuffer}
use Rattle.paper.specs.declared.answers.Condition.{Condition}
use Rattle.paper.specs.declared.answers.Condition.TheVariants.{PendingEnrolled, OpensNothing}
use Rattle.paper.specs.declared.answers.Answer.TheVariants.{Refused}
use Rattle.paper.specs.declared.answers.Opened.{Opened}
use Rattle.paper.specs.declared.answers.Opened.TheVariants.{Opens, Closed, Barred}

abbrev is_two : Refusal → Bool
is_two BadSetup = false
is_two BadState = true
is_two NoInitiator = false
is_two BadCdb = false
is_two BadParameters = false
is_two ShortBuffer = false

-- a decision that is not refusal 2
data Other : Decision → Type 0 where
  refusal : {n : Refusal} → is_two n ≡ false → Other (refuse n)
  checked : {k : Condition} → Other (check k)
  fine : {es : List Effect} {bytes : List ℕ} → Other (good es bytes)

judge : (v : Verdict) {d : Decision} → Other d → Other (judged v d)
judge (fails k) o = checked
judge passes o = o

read : (c : Coordinator) (i random : ℕ) (r : Reading) → Other (decide_reading c i random r)
unfolding decide_reading decide_order
read c i random (wrong k) = checked
read c i random (order o) =
    let now = in_force c.enabled o in
    judge (tests c i random now) (fine {es = effects (units_of c) c.enabled i random now} {bytes = reply_to c random now})

roomed : (room : ℕ) {d : Decision} → Other d → Other (in_room room d)
roomed room (refusal e) = refusal e
roomed room checked = checked
roomed room (fine {bytes = bytes}) = both Other (ltb room (length bytes)) (refusal refl) fine

not_two : (c : Coordinator) {d : Decision} → Other d → (outcome_of c d).answer ≡ Refused BadState → ⊥
not_two c (refusal {n} e) q = let two : n ≡ BadState = cc in clashes (ap is_two two) e
not_two c checked q = let z : ◌≡◌ {A = ℕ} 0 1 = cc in absurd (omega arith)
not_two c fine q = let z : ◌≡◌ {A = ℕ} 0 1 = cc in absurd (omega arith)

-- the same of the route question: rows answer a unit or a CHECK CONDITION
abbrev bars_two : Opened → Bool
bars_two (Opens u) = false
bars_two (Closed k) = false
bars_two (Barred n) = is_two n

rows_answer : (o : Option Row) (k : Condition) → bars_two (opens_or o k) ≡ false
rows_answer None k = refl
rows_answer (Some r) k = refl

module _ (c : Coordinator) (stands : standing c ≡ true) where
  command_other : (i : ℕ) (cdb list : List ℕ) (random room : ℕ) → Other (decide_command c i cdb list random room)
  unfolding decide_command
  command_other i cdb list random room =
      rw stands
      (both Other (leb c.initiators.count i) (refusal refl)
      (both Other (not (eqb (length cdb) 16)) (refusal refl)
      (both Other (not (eqb (length list) (owed cdb))) (refusal refl)
      (roomed room (read c i random (reading_of cdb list))))))

  link_other : (i : ℕ) → Other (decide_link c i)
  unfolding decide_link
  link_other i = rw stands (both Other (leb c.initiators.count i) (refusal refl) fine)

  reach_other : (room : ℕ) → Other (decide_reach c room)
  unfolding decide_reach
  reach_other room = rw stands (roomed room (fine {es = []} {bytes = reach_bytes c}))

  pub command_not_2 : (i : ℕ) (cdb list : List ℕ) (random room : ℕ) → (outcome_of c (decide_command c i cdb list random room)).answer ≡ Refused BadState → ⊥
  command_not_2 i cdb list random room = not_two c (command_other i cdb list random room)

  pub link_not_2 : (i : ℕ) → (outcome_of c (decide_link c i)).answer ≡ Refused BadState → ⊥
  link_not_2 i = not_two c (link_other i)

  pub reach_not_2 : (room : ℕ) → (outcome_of c (decide_reach c room)).answer ≡ Refused BadState → ⊥
  reach_not_2 room = not_two c (reach_other room)

  pub route_not_2 : (i l : ℕ) → routed c i l ≡ Barred BadState → ⊥
  unfolding routed opens
  route_not_2 i l q =
      let rows = rows_answer (row_with opens_by l (rows_of c i)) (cond (pending_has l (rows_of c i)) PendingEnrolled OpensNothing) in
      let other : bars_two (routed c i l) ≡ false = rw stands (both (λ o. bars_two o ≡ false) (leb c.initiators.count i) refl rows) in
      clashes (ap bars_two q) other
