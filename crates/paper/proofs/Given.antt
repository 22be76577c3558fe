-- What an identifier holds by the tables is what its last page gives by the history.
use Prim.Native.Nat.{ℕ, ◌<◌}
use mathlib.Core.Path.{◌≡◌, refl, ap, ap₂, sym, ◌∙◌}
use mathlib.Core.List.{List, []}
use Rattle.std.specs.Prelude.{Option, Some, None}
use native.Mathlib.Omega.{arith}
use Rattle.lists.specs.Lists.{nth}
use Rattle.paper.specs.Setup.{Setup}
use Rattle.paper.specs.Contents.{Content, held}
use Rattle.paper.specs.Tables.{units_of, transports_of, transport_of, aces_of}
use Rattle.paper.specs.Rows.{content_for}
use Rattle.paper.specs.Readings.{History, last_page, on_page, given_to, transport_id, given_by_t}
use Rattle.paper.proofs.Getters.{length_transports}
use Rattle.paper.proofs.Invariant.{content_left, Agrees}
use Rattle.paper.proofs.ListLaws.{nth_at}
use Rattle.paper.specs.declared.state.IdType.{IdType}
use Rattle.paper.specs.declared.state.IdType.TheVariants.{TransportId}
use Rattle.paper.specs.declared.state.Coordinator.{Coordinator}

held_left : (w : Setup) (o : Option Content) → held w.luns (content_left o) ≡ on_page w o
held_left w None = refl
held_left w (Some content) = refl

module _ (w : Setup) (h : History) (c : Coordinator) (a : Agrees w h c) where
  pub holds_given : (k : IdType) (id : List ℕ) → held (units_of c) (content_for (aces_of c) k id) ≡ given_to w h k (Some id)
  holds_given k id = ap₂ held a.units (a.pages k id) ∙ held_left w (last_page h k id)

  -- an initiator that is there has the TransportID that the setup lists
  transport_listed : (i : ℕ) → i < c.initiators.count → transport_id w i ≡ Some (transport_of c i)
  transport_listed i k =
      ap (λ (l : List (List ℕ)). nth l i) (sym a.transports)
      ∙ nth_at [] (transports_of c) i (omega (arith, length_transports c))

  pub transport_given : (i : ℕ) → i < c.initiators.count → held (units_of c) (content_for (aces_of c) TransportId (transport_of c i)) ≡ given_by_t w h i
  transport_given i k =
      holds_given TransportId (transport_of c i) ∙ ap (given_to w h TransportId) (sym (transport_listed i k))
