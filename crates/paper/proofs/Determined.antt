-- "show that two results allowed by it are equal": of each public function, and of every lent byte.
use Prim.Native.Nat.{ℕ}
use mathlib.Core.Path.{◌≡◌, sym, ◌∙◌}
use mathlib.Core.List.{List}
use Rattle.paper.specs.Promises.{SetupKept, CommandKept, LinkKept, RouteKept, ReachKept}
use Rattle.paper.specs.declared.state.Coordinator.{Coordinator}
use Rattle.paper.specs.declared.outcomes.Outcome.{Outcome}
use Rattle.paper.specs.declared.outcomes.Started.{Started}
use Rattle.paper.specs.declared.outcomes.Opening.{Opening}

pub setup_determined : (ids luns : List ℕ) (r q : Started) → SetupKept ids luns r → SetupKept ids luns q → r ≡ q
setup_determined ids luns r q a b = a ∙ sym b

pub command_determined : (c : Coordinator) (i : ℕ) (cdb list : List ℕ) (random : ℕ) (buffer : List ℕ) (r q : Outcome) (after later : List ℕ) → CommandKept c i cdb list random buffer r after → CommandKept c i cdb list random buffer q later → (r ≡ q) × (after ≡ later)
command_determined c i cdb list random buffer r q after later a b = (a.0 ∙ sym b.0, a.1 ∙ sym b.1)

pub link_determined : (c : Coordinator) (i : ℕ) (r q : Outcome) → LinkKept c i r → LinkKept c i q → r ≡ q
link_determined c i r q a b = a ∙ sym b

pub route_determined : (c : Coordinator) (i l : ℕ) (r q : Opening) → RouteKept c i l r → RouteKept c i l q → r ≡ q
route_determined c i l r q a b = a ∙ sym b

pub reach_determined : (c : Coordinator) (buffer : List ℕ) (r q : Outcome) (after later : List ℕ) → ReachKept c buffer r after → ReachKept c buffer q later → (r ≡ q) × (after ≡ later)
reach_determined c buffer r q after later a b = (a.0 ∙ sym b.0, a.1 ∙ sym b.1)
