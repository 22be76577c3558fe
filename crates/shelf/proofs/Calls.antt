-- A call, by the test of the bytes that name variants.
use Prim.Native.Nat.{ℕ}
use mathlib.Core.Path.{◌≡◌, ap, sym, ◌∙◌}
use mathlib.Core.List.{List}
use mathlib.Core.Bool.{Bool, true, false}
use Rattle.paper.specs.Outcomes.{Decision, outcome_of, buffer_after, routed, opening_of}
use Rattle.paper.specs.declared.state.Coordinator.{Coordinator}
use Rattle.paper.specs.declared.answers.Opened.TheVariants.{Barred}
use Rattle.paper.specs.declared.answers.Refusal.TheVariants.{BadState}
use Rattle.paper.specs.declared.outcomes.Outcome.{Outcome}
use Rattle.paper.specs.declared.outcomes.Opening.{Opening}
use Rattle.shelf.specs.Crossing.{well_named, coordinator_in, outcome_out, opening_out, refused_shelf, call_outcome, call_buffer, route_opening}
use Rattle.shelf.specs.declared.layout.Shelf.{Shelf}
use Rattle.shelf.specs.declared.layout.ShelfOutcome.{ShelfOutcome}
use Rattle.shelf.specs.declared.layout.ShelfOpening.{ShelfOpening}

-- a call that hands back a state, and the buffer lent to it
module _ (s : Shelf) (decide : Coordinator → Decision) (buffer : List ℕ) {named : Bool} (e : named ≡ well_named s) where
  pub call_refused : {r : ShelfOutcome} → named ≡ false → r ≡ refused_shelf s → (r ≡ call_outcome s decide) × (buffer ≡ call_buffer s decide buffer)
  unfolding call_outcome call_buffer
  call_refused n h = let u : well_named s ≡ false = sym e ∙ n in (rw u h, rw u)

  pub call_made : {c : Coordinator} {o : Outcome} {after : List ℕ} {r : ShelfOutcome} → named ≡ true → c ≡ coordinator_in s → (o ≡ outcome_of c (decide c)) × (after ≡ buffer_after (decide c) buffer) → r ≡ outcome_out o → (r ≡ call_outcome s decide) × (after ≡ call_buffer s decide buffer)
  unfolding call_outcome call_buffer
  call_made n p q h =
      let u : well_named s ≡ true = sym e ∙ n in (
        rw u (h ∙ (ap outcome_out q.0 ∙ ap (λ x. outcome_out (outcome_of x (decide x))) p)),
        rw u (q.1 ∙ ap (λ x. buffer_after (decide x) buffer) p),
      )

-- the route question
module _ (s : Shelf) (i l : ℕ) where
  pub opening_so : {c : Coordinator} {o : Opening} {r : ShelfOpening} → c ≡ coordinator_in s → o ≡ opening_of (routed c i l) → r ≡ opening_out o → r ≡ opening_out (opening_of (routed (coordinator_in s) i l))
  opening_so p q h = h ∙ ap opening_out (q ∙ ap (λ x. opening_of (routed x i l)) p)

  pub route_barred : {named : Bool} {o : Opening} {r : ShelfOpening} → named ≡ well_named s → named ≡ false → o ≡ opening_of (Barred BadState) → r ≡ opening_out o → r ≡ route_opening s i l
  unfolding route_opening
  route_barred e n q h = let u : well_named s ≡ false = sym e ∙ n in rw u (h ∙ ap opening_out q)

  pub route_asked : {named : Bool} {c : Coordinator} {o : Opening} {r : ShelfOpening} → named ≡ well_named s → named ≡ true → c ≡ coordinator_in s → o ≡ opening_of (routed c i l) → r ≡ opening_out o → r ≡ route_opening s i l
  unfolding route_opening
  route_asked e n p q h = let u : well_named s ≡ true = sym e ∙ n in rw u (opening_so p q h)
