-- What a statement that is decided GOOD has gone through: it was read as an order, the state stood, the initiator was there, every test passed; and what it put into effect.
use Prim.Native.Nat.{ℕ, ◌<◌}
use mathlib.Core.Path.{◌≡◌, refl, ap, ap₂, sym, ◌∙◌}
use mathlib.Core.List.{List}
use mathlib.Core.Bool.{Bool, true, false, cond, not}
use native.Mathlib.Omega.{arith}
use lib.ListN.{length}
use lib.Dec.{eqb, leb, ltb}
use borrow.Author.Tests.{leb-false, not-false}
use Rattle.paper.specs.Setup.{Setup}
use Rattle.paper.specs.Tables.{units_of}
use Rattle.paper.specs.Standing.{standing}
use Rattle.paper.specs.Orders.{Order, Reading, wrong, order, reading_of}
use Rattle.paper.specs.Effects.{Effect}
use Rattle.paper.specs.InForce.{in_force, effects, link_effects}
use Rattle.paper.specs.Commands.{Verdict, fails, passes, tests}
use Rattle.paper.specs.Outcomes.{Decision, refuse, check, good, reply_to, judged, decide_order, decide_reading, owed, in_room, decide_command, decide_link}
use Rattle.paper.specs.Readings.{History, is_on}
use Rattle.paper.specs.Runs.{command, link, reading_effects, statement_effects}
use Rattle.paper.proofs.Invariant.{Agrees}
use Rattle.paper.specs.declared.state.Coordinator.{Coordinator}
use Rattle.paper.specs.declared.answers.Refusal.{Refusal}
use Rattle.paper.specs.declared.answers.Refusal.TheVariants.{BadState, NoInitiator, BadCdb, BadParameters, ShortBuffer}

-- ---- a decision that ends well was not refused on the way
admitted : {es : List Effect} {bytes : List ℕ} (b : Bool) (n : Refusal) (d : Decision) → cond b (refuse n) d ≡ good es bytes → (b ≡ false) × (d ≡ good es bytes)
admitted true n d e = let z : ◌≡◌ {A = ℕ} 0 1 = cc in absurd (omega arith)
admitted false n d e = (refl, e)

roomy : {es : List Effect} {bytes : List ℕ} (room : ℕ) (d : Decision) → in_room room d ≡ good es bytes → d ≡ good es bytes
roomy room (refuse n) e = e
roomy room (check k) e = e
roomy room (good fs xs) e = (admitted (ltb room (length xs)) ShortBuffer (good fs xs) e).1

judged_good : {es : List Effect} {bytes : List ℕ} (v : Verdict) (d : Decision) → judged v d ≡ good es bytes → (v ≡ passes) × (d ≡ good es bytes)
judged_good (fails k) d e = let z : ◌≡◌ {A = ℕ} 0 1 = cc in absurd (omega arith)
judged_good passes d e = (refl, e)

same_effects : {es fs : List Effect} {xs ys : List ℕ} → good es xs ≡ good fs ys → es ≡ fs
same_effects e = cc

-- ---- a command
pub record Decided (c : Coordinator) (i : ℕ) (cdb list : List ℕ) (random : ℕ) (es : List Effect) : Type 0 where
  pub stands : standing c ≡ true
  pub there : i < c.initiators.count
  pub asked : Order
  pub read : reading_of cdb list ≡ order asked
  pub passed : tests c i random (in_force c.enabled asked) ≡ passes
  pub took : effects (units_of c) c.enabled i random (in_force c.enabled asked) ≡ es

read_good : {es : List Effect} {bytes : List ℕ} (c : Coordinator) (i random : ℕ) (r : Reading) → decide_reading c i random r ≡ good es bytes → (o : Order) × (r ≡ order o) × (tests c i random (in_force c.enabled o) ≡ passes) × (effects (units_of c) c.enabled i random (in_force c.enabled o) ≡ es)
unfolding decide_reading decide_order
read_good c i random (wrong k) e = let z : ◌≡◌ {A = ℕ} 0 1 = cc in absurd (omega arith)
read_good c i random (order o) e =
    let r = judged_good (tests c i random (in_force c.enabled o)) (good (effects (units_of c) c.enabled i random (in_force c.enabled o)) (reply_to c random (in_force c.enabled o))) e in
    (o, refl, r.0, same_effects r.1)

pub decided : {es : List Effect} {bytes : List ℕ} (c : Coordinator) (i : ℕ) (cdb list : List ℕ) (random room : ℕ) → decide_command c i cdb list random room ≡ good es bytes → Decided c i cdb list random es
unfolding decide_command
decided c i cdb list random room e =
    let p = admitted (not (standing c)) BadState _ e in
    let q = admitted (leb c.initiators.count i) NoInitiator _ p.1 in
    let s = admitted (not (eqb (length cdb) 16)) BadCdb _ q.1 in
    let t = admitted (not (eqb (length list) (owed cdb))) BadParameters _ s.1 in
    let r = read_good c i random (reading_of cdb list) (roomy room _ t.1) in
    record {
      stands = not-false (standing c) p.0;
      there = leb-false c.initiators.count i q.0;
      asked = r.0;
      read = r.1;
      passed = r.2;
      took = r.3;
    }

-- ---- a link event
pub record Linked (c : Coordinator) (i : ℕ) (es : List Effect) : Type 0 where
  pub stands : standing c ≡ true
  pub there : i < c.initiators.count
  pub took : link_effects c.enabled i ≡ es

pub linked : {es : List Effect} {bytes : List ℕ} (c : Coordinator) (i : ℕ) → decide_link c i ≡ good es bytes → Linked c i es
unfolding decide_link
linked c i e =
    let p = admitted (not (standing c)) BadState _ e in
    let q = admitted (leb c.initiators.count i) NoInitiator _ p.1 in
    record {
      stands = not-false (standing c) p.0;
      there = leb-false c.initiators.count i q.0;
      took = same_effects q.1;
    }

-- ---- what the history reads is what took effect
module _ (w : Setup) (h : History) (c : Coordinator) (a : Agrees w h c) where
  pub command_told : {es : List Effect} {bytes : List ℕ} (i : ℕ) (cdb list : List ℕ) (random room : ℕ) → decide_command c i cdb list random room ≡ good es bytes → statement_effects w.luns (is_on h) (command i cdb list random) ≡ es
  unfolding statement_effects
  command_told i cdb list random room e =
      let d = decided c i cdb list random room e in
      ap (reading_effects w.luns (is_on h) i random) d.read
      ∙ (ap₂ (λ (luns : List ℕ) (on : Bool). effects luns on i random (in_force on d.asked)) (sym a.units) (sym a.on)
      ∙ d.took)

  pub link_told : {es : List Effect} {bytes : List ℕ} (i : ℕ) → decide_link c i ≡ good es bytes → statement_effects w.luns (is_on h) (link i) ≡ es
  unfolding statement_effects
  link_told i e = ap (λ (on : Bool). link_effects on i) (sym a.on) ∙ (linked c i e).took
