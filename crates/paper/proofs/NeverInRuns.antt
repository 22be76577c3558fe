-- Refusal 2 never arises in a run that starts from an accepted setup: no answer of its transcript is refusal 2. What is asked of the state that it has reached is not answered so either (Demand3).
use Prim.Native.Nat.{ℕ}
use mathlib.Core.Path.{◌≡◌, ap, sym, ◌∙◌}
use mathlib.Core.List.{List}
use mathlib.Core.Logic.{⊎_elim}
use Rattle.lists.specs.Lists.{◌∈◌}
use Rattle.lists.proofs.Members.{in_cons}
use Rattle.paper.specs.Runs.{Entry}
use Rattle.paper.specs.Promises.{SetupKept, Calls, none_yet, commanded, linked}
use Rattle.paper.proofs.Demand3.{command_never_2, link_never_2}
use Rattle.paper.specs.declared.state.Coordinator.{Coordinator}
use Rattle.paper.specs.declared.outcomes.Started.{Started}
use Rattle.paper.specs.declared.answers.Refusal.TheVariants.{BadState}
use Rattle.paper.specs.declared.answers.Answer.TheVariants.{Good, Refused}

module _ (ids luns : List ℕ) (s : Started) (kept : SetupKept ids luns s) (ok : s.answer ≡ Good) where
  -- each answer was given by a state that a run had reached
  pub never_2 : (c : Coordinator) (es : List Entry) → Calls s.state c es → (x : Entry) → x ∈ es → x.answer ≡ Refused BadState → ⊥
  never_2 c es none_yet x m q = elim m [ ]
  never_2 c es (commanded {c = now} {es = before} {r = r} {after = after} i cdb list random buffer calls k) x m q =
      ⊎_elim
      (λ e. command_never_2 ids luns s kept ok now before calls i cdb list random buffer r after k (sym (ap (λ y. y.answer) e) ∙ q))
      (λ j. never_2 now before calls x j q)
      (in_cons m)
  never_2 c es (linked {c = now} {es = before} {r = r} i calls k) x m q =
      ⊎_elim
      (λ e. link_never_2 ids luns s kept ok now before calls i r k (sym (ap (λ y. y.answer) e) ∙ q))
      (λ j. never_2 now before calls x j q)
      (in_cons m)
