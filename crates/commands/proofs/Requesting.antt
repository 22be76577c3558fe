-- A request whose tests pass issues the token of the unit that its LUN opens.
use Prim.Native.Nat.{ℕ}
use mathlib.Core.Path.{◌≡◌, refl}
use mathlib.Core.List.{List}
use Rattle.std.specs.Prelude.{Ok}
use native.Mathlib.Omega.{arith}
use lib.ListN.{length}
use lib.Dec.{ltb}
use Rattle.lists.proofs.Bytes.{bytes_length}
use Rattle.lists.proofs.Tests.{split}
use Rattle.wire.specs.Lun.{head_of}
use Rattle.paper.specs.Grounds.{is_ta}
use Rattle.paper.specs.Rows.{rows_of, row_with}
use Rattle.paper.specs.Applied.{unit_in, applied, applied_all}
use Rattle.paper.specs.Commands.{Verdict, fails, passes, request_tests}
use Rattle.paper.specs.Outcomes.{outcome_of, buffer_after}
use Rattle.paper.specs.declared.state.Token.{Token}
use Rattle.paper.specs.declared.state.Coordinator.{Coordinator}
use Rattle.commands.specs.Requested.{requested, request_decision, outcome_with, reply_with}

-- a unit says that all tests passed
pub passed : (v : Verdict) (u : ℕ) {w : ℕ} → requested v u ≡ Ok w → (v ≡ passes) × (u ≡ w)
passed (fails j) u h = let z : ◌≡◌ {A = ℕ} 0 1 = cc in absurd (omega arith)
passed passes u h = (refl, cc)

-- the token, of the unit that the LUN opens and with the LUN's first two bytes
abbrev made : ℕ → ℕ → ℕ → ℕ → Token
made n u i h = record { number = n; unit = u; requester = i; lun = h }

module _ (c : Coordinator) (i l random : ℕ) {v h : ℕ} (p : request_tests c i l random ≡ passes) (q : unit_in (row_with is_ta l (rows_of c i)) ≡ v) (e : h ≡ head_of l) where
  pub outcome_is : (room : ℕ) → outcome_with c (made random v i h) room ≡ outcome_of c (request_decision c i l random room)
  unfolding applied applied_all
  outcome_is room =
      split (ltb room 8) (λ t. rw (p, bytes_length 8 random, t)) (λ t. rw (p, bytes_length 8 random, t, bytes_length 8 random, q, e))

  pub reply_is : (buffer : List ℕ) → reply_with (made random v i h) buffer ≡ buffer_after (request_decision c i l random (length buffer)) buffer
  reply_is buffer =
      split (ltb (length buffer) 8) (λ t. rw (p, bytes_length 8 random, t)) (λ t. rw (p, bytes_length 8 random, t))
