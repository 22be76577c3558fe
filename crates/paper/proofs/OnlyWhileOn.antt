-- A LUN names a place only while access controls are on: "an ACE, token or nonzero key while disabled" breaks a standing rule, so while they are off no page gives anything.
use Prim.Native.Nat.{ℕ}
use mathlib.Core.Path.{◌≡◌, refl, ap, sym, ◌∙◌}
use mathlib.Core.Bool.{true, false, ◌&&◌}
use mathlib.Core.List.{List, []}
use Rattle.std.specs.Prelude.{Option, Some, None}
use mathlib.Core.Logic.{⊎_elim}
use lib.ListN.{take}
use lib.Dec.{eqb}
use borrow.Author.Tests.{eqb-true}
use Rattle.lists.specs.Lists.{is_some}
use Rattle.lists.proofs.Tests.{split, clashes, and_true, or_true}
use Rattle.paper.specs.Setup.{Setup}
use Rattle.paper.specs.Contents.{held}
use Rattle.paper.specs.Tables.{units_of, aces_of}
use Rattle.paper.specs.Rows.{ace_for, content_for}
use Rattle.paper.specs.Standing.{empty_while_off}
use Rattle.paper.specs.Readings.{History, is_on, enrolment, given_to, transport_id, enrolled_under, place_named}
use Rattle.paper.proofs.Stood.{stood}
use Rattle.paper.proofs.Invariant.{Holds}
use Rattle.paper.proofs.Given.{holds_given}
use Rattle.paper.specs.declared.state.IdType.{IdType}
use Rattle.paper.specs.declared.state.IdType.TheVariants.{AccessId, TransportId}
use Rattle.paper.specs.declared.state.Coordinator.{Coordinator}

module _ (w : Setup) (h : History) (c : Coordinator) (holds : Holds w h c) where
  no_aces : is_on h ≡ false → aces_of c ≡ []
  unfolding empty_while_off
  no_aces off =
      let empty = ⊎_elim (λ on. clashes on (holds.agrees.on ∙ off)) (λ e. e) (or_true c.enabled (eqb c.acl.count 0 && (eqb c.tokens.count 0 && eqb c.key 0)) (stood c holds.stands).off) in
      let (aces, rest) = and_true (eqb c.acl.count 0) _ empty in
      ap (λ n. take n c.acl.items) (eqb-true c.acl.count 0 aces)

  -- while off no identifier is given anything
  nothing_given : is_on h ≡ false → (k : IdType) (id : Option (List ℕ)) → given_to w h k id ≡ []
  unfolding ace_for
  nothing_given off k None = refl
  nothing_given off k (Some id) =
      sym (holds_given w h c holds.agrees k id)
      ∙ ap (λ aces. held (units_of c) (content_for aces k id)) (no_aces off)

  pub place_on : (i l : ℕ) → is_some (place_named w h i l) ≡ true → is_on h ≡ true
  unfolding place_named
  place_on i l there =
      split (is_on h)
      (λ on. on)
      (λ off.
      let by_t = nothing_given off TransportId (transport_id w i) in
      let byA = nothing_given off AccessId (enrolled_under (enrolment h i)) in
      clashes there (rw (by_t, byA)))
