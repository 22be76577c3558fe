-- No OUT command delivers a byte.
use Prim.Native.Nat.{ℕ}
use mathlib.Core.Path.{◌≡◌, refl}
use mathlib.Core.List.{List, []}
use Rattle.paper.specs.Tables.{units_of}
use Rattle.paper.specs.Effects.{Effect}
use Rattle.paper.specs.InForce.{effects}
use Rattle.paper.specs.Commands.{Verdict, fails, passes, tests}
use Rattle.paper.specs.Outcomes.{Decision, refuse, check, good, reply_to, judged, decide_order}
use Rattle.paper.specs.declared.state.Coordinator.{Coordinator}
use Rattle.paper.specs.declared.answers.Refusal.{Refusal}
use Rattle.paper.specs.declared.answers.Condition.{Condition}
use Rattle.coordinator.specs.Orders.{order_of}
use Rattle.coordinator.specs.declared.reading.OutOrder.{OutOrder}
use Rattle.coordinator.specs.declared.reading.OutOrder.TheVariants.{Manage, Disable, Enroll, Cancel, Revoke, RevokeAll, Assign, Release, NoAction}

-- ---- decisions that deliver no byte
pub data Quiet : Decision → Type 0 where
  refused : {n : Refusal} → Quiet (refuse n)
  checked : {k : Condition} → Quiet (check k)
  done : {es : List Effect} → Quiet (good es [])

judged_quiet : (v : Verdict) (es : List Effect) → Quiet (judged v (good es []))
judged_quiet (fails k) es = checked
judged_quiet passes es = done

-- ---- the OUT commands: none delivers a byte
module _ (c : Coordinator) (i random : ℕ) (list : List ℕ) where
  no_reply : (o : OutOrder) → reply_to c random (order_of list o) ≡ []
  unfolding reply_to
  no_reply Manage = refl
  no_reply (Disable key) = refl
  no_reply Enroll = refl
  no_reply Cancel = refl
  no_reply (Revoke n) = refl
  no_reply (RevokeAll l) = refl
  no_reply (Assign n l) = refl
  no_reply (Release l) = refl
  no_reply NoAction = refl

  pub out_quiet : (o : OutOrder) → Quiet (decide_order c i random (order_of list o))
  unfolding decide_order
  out_quiet o =
      rw (no_reply o) (judged_quiet (tests c i random (order_of list o)) (effects (units_of c) c.enabled i random (order_of list o)))
