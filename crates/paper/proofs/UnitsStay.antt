-- No effect changes the table of units: it is the setup's.
use mathlib.Core.Path.{◌≡◌, refl, ◌∙◌}
use mathlib.Core.List.{List, [], ◌∷◌}
use Rattle.lists.proofs.Tests.{split}
use Rattle.paper.specs.Effects.{turned_on, turned_off, flushed, joined, left, link_event, issued, ended, assigned, released, Effect, switched, keyed, granted, enrolling, tokening, proxying, ends_enrolments}
use Rattle.paper.specs.Applied.{applied, applied_all}
use Rattle.paper.specs.declared.state.Coordinator.{Coordinator}

pub units_stay : (c : Coordinator) (e : Effect) → (applied c e).units ≡ c.units
unfolding applied
units_stay c (switched turned_on) = refl
units_stay c (switched turned_off) = refl
units_stay c (keyed k) = refl
units_stay c (granted k id content n) = split (ends_enrolments k content n) (λ e. rw e) (λ e. rw e)
units_stay c (enrolling flushed) = refl
units_stay c (enrolling (joined i id)) = refl
units_stay c (enrolling (left i)) = refl
units_stay c (enrolling (link_event i)) = refl
units_stay c (tokening (issued i l n)) = refl
units_stay c (tokening (ended e)) = refl
units_stay c (proxying (assigned i l n)) = refl
units_stay c (proxying (released i l)) = refl

pub units_kept : (c : Coordinator) (es : List Effect) → (applied_all c es).units ≡ c.units
unfolding applied_all
units_kept c [] = refl
units_kept c (e ∷ es) = units_kept (applied c e) es ∙ units_stay c e
