-- The service actions that are none of those that are supported.
use Prim.Native.Nat.{ℕ}
use mathlib.Core.Path.{◌≡◌}
use mathlib.Core.List.{List}
use mathlib.Core.Bool.{Bool}
use borrow.Author.Tests.{ne_eqb}
use Rattle.paper.specs.Orders.{wrong, service_action, read_in, read_out}
use Rattle.paper.specs.declared.answers.Condition.TheVariants.{InvalidField}
use Rattle.coordinator.specs.Orders.{forced}

-- "All others: 24h/00h."
pub record Other (a : ℕ) : Type 0 where
  pub manage : a ≡ 0x00 → ⊥
  pub disable : a ≡ 0x01 → ⊥
  pub enroll : a ≡ 0x02 → ⊥
  pub cancel : a ≡ 0x03 → ⊥
  pub revoke : a ≡ 0x07 → ⊥
  pub revoke_all : a ≡ 0x08 → ⊥
  pub assign : a ≡ 0x09 → ⊥
  pub release : a ≡ 0x0A → ⊥

pub unsupported : (a : ℕ) (list : List ℕ) → Other a → read_out a list ≡ wrong InvalidField
unfolding read_out
unsupported a list h =
    rw (ne_eqb a 0x00 h.manage, ne_eqb a 0x01 h.disable, ne_eqb a 0x02 h.enroll, ne_eqb a 0x03 h.cancel, ne_eqb a 0x07 h.revoke, ne_eqb a 0x08 h.revoke_all, ne_eqb a 0x09 h.assign, ne_eqb a 0x0A h.release)

pub in_unsupported : (on : Bool) (cdb : List ℕ) → (service_action cdb ≡ 0x00 → ⊥) → (service_action cdb ≡ 0x04 → ⊥) → wrong InvalidField ≡ forced on (read_in cdb)
unfolding read_in
in_unsupported on cdb h k = rw (ne_eqb (service_action cdb) 0x00 h, ne_eqb (service_action cdb) 0x04 k)
