-- Every order in force keeps the standing rules, while on and while off, and so does a link event.
use Prim.Native.Nat.{ℕ, ◌<◌}
use mathlib.Core.Path.{◌≡◌}
use mathlib.Core.Bool.{true}
use Rattle.lists.proofs.Tests.{both}
use Rattle.paper.specs.Tables.{units_of}
use Rattle.paper.specs.Standing.{standing}
use Rattle.paper.specs.Orders.{Order, report_acl, request_token, manage_acl, disable, enroll, cancel, revoke, revoke_all, assign, release, no_action}
use Rattle.paper.specs.Effects.{own, named}
use Rattle.paper.specs.InForce.{effects, link_effects}
use Rattle.paper.specs.Applied.{applied_all}
use Rattle.paper.specs.Commands.{passes, tests}
use Rattle.paper.proofs.ReleaseStands.{release_stands}
use Rattle.paper.proofs.EndingStands.{ended_stands}
use Rattle.paper.proofs.AssignStands.{assign_stands}
use Rattle.paper.proofs.RequestStands.{request_stands}
use Rattle.paper.proofs.EnrolmentsStand.{enroll_stands, cancel_stands, linked_stands}
use Rattle.paper.proofs.OffStands.{disable_stands}
use Rattle.paper.proofs.ManageStands.{manage_stands}
use Rattle.paper.specs.declared.state.Coordinator.{Coordinator}

pub order_stands : (c : Coordinator) (i random : ℕ) (o : Order) → standing c ≡ true → i < c.initiators.count → tests c i random o ≡ passes → standing (applied_all c (effects (units_of c) c.enabled i random o)) ≡ true
unfolding effects applied_all tests
order_stands c i random (report_acl key room) h k p = h
order_stands c i random (request_token l) h k p = request_stands c i l random h k p
order_stands c i random (manage_acl list) h k p = manage_stands c list h p
order_stands c i random (disable key) h k p = disable_stands c h
order_stands c i random (enroll id) h k p = enroll_stands c i id h p
order_stands c i random cancel h k p = cancel_stands c i h k
order_stands c i random (revoke n) h k p = ended_stands c (own i n) h
order_stands c i random (revoke_all l) h k p = ended_stands c (named i l) h
order_stands c i random (assign n l) h k p = assign_stands c i n l h k p
order_stands c i random (release l) h k p = release_stands c i l h
order_stands c i random no_action h k p = h

-- "A link event told by the host turns that initiator from enrolled to pending (H)."
pub link_event_stands : (c : Coordinator) (i : ℕ) → standing c ≡ true → i < c.initiators.count → standing (applied_all c (link_effects c.enabled i)) ≡ true
unfolding applied_all
link_event_stands c i h k =
    both (λ es. standing (applied_all c es) ≡ true) c.enabled (linked_stands c i h k) h
