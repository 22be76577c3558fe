-- Every state of a replay is one that demand 3 speaks of: the calls since the last setup made it, from an accepted setup. A refused setup leaves the state of an accepted one, which lists nothing.
use Prim.Native.Nat.{ℕ}
use mathlib.Core.Path.{◌≡◌, refl, sym, subst}
use mathlib.Core.List.{List, [], ◌∷◌}
use mathlib.Core.Bool.{true, cond}
use lib.ListN.{length, length-replicate}
use lib.Dec.{eqb, ltb}
use Rattle.lists.specs.Lists.{pairs, parts}
use Rattle.lists.proofs.Tests.{split, both}
use Rattle.paper.specs.Setup.{setup_rules, ids_in, luns_in, accepted}
use Rattle.paper.specs.Fresh.{nothing, fresh, started}
use Rattle.paper.specs.Outcomes.{decide_command, decide_reach, outcome_of}
use Rattle.paper.specs.Applied.{applied_all}
use Rattle.paper.specs.Standing.{standing}
use Rattle.paper.specs.Reports.{reach_bytes}
use Rattle.paper.specs.Promises.{Calls, none_yet, commanded, linked}
use Rattle.paper.specs.declared.state.Coordinator.{Coordinator}
use Rattle.journal.specs.Statements.{Said, setup, command, link, route, reach, Line, skipped, said, too_long, expected, read_line}
use Rattle.journal.specs.Replay.{lent, step_said, step_line}
use Rattle.journal.specs.Lines.{is_end, Replaying, begun, answered, lengthened, fed, ended}
use Rattle.journal.specs.Reached.{Reached}

-- "Zero initiators or units is allowed."
nothing_accepted : accepted [] [] ≡ true
unfolding accepted setup_rules ids_in luns_in pairs parts
nothing_accepted = refl

pub nothing_reached : Reached (fresh nothing)
unfolding started ids_in luns_in parts
nothing_reached =
    record {
      ids = [];
      luns = [];
      accepted = rw nothing_accepted refl;
      es = [];
      calls = subst (λ c. Calls (started [] []).state c []) (rw nothing_accepted refl) none_yet;
    }

-- ---- a setup begins a run
setup_reached : (ids luns : List ℕ) → Reached (started ids luns).state
unfolding started
setup_reached ids luns =
    split (accepted ids luns)
    (λ ok. record { ids = ids; luns = luns; accepted = rw ok refl; es = []; calls = none_yet })
    (λ no. rw no nothing_reached)

-- ---- the reach list changes nothing
pub reach_keeps : (c : Coordinator) (n : ℕ) → (outcome_of c (decide_reach c n)).state ≡ c
unfolding decide_reach applied_all
reach_keeps c n =
    split (standing c) (λ e. rw e (both (λ d. (outcome_of c d).state ≡ c) (ltb n (length (reach_bytes c))) refl refl)) (λ e. rw e refl)

said_reached : (c : Coordinator) (s : Said) → Reached c → Reached (step_said c s).state
unfolding step_said
said_reached c (setup ids luns) r = setup_reached ids luns
said_reached c (command i cdb list random n) r =
    subst (λ m. Reached (outcome_of c (decide_command c i cdb list random m)).state) (length-replicate n 0xA5)
    (record { ids = r.ids; luns = r.luns; accepted = r.accepted; es = _; calls = commanded i cdb list random (lent n) r.calls (refl, refl) })
said_reached c (link i) r =
    record { ids = r.ids; luns = r.luns; accepted = r.accepted; es = _; calls = linked i r.calls refl }
said_reached c (route i l) r = r
said_reached c (reach n) r = subst (λ c. Reached c) (sym (reach_keeps c n)) r

pub step_reached : (c : Coordinator) (number : ℕ) (line : Line) → Reached c → Reached (step_line c number line).state
unfolding step_line
step_reached c number skipped r = r
step_reached c number (said s) r = said_reached c s r
step_reached c number too_long r = r
step_reached c number (expected k kind) r = r

-- ---- line after line
answered_reached : (x : Replaying) → Reached x.state → Reached (answered x).state
answered_reached x r = step_reached x.state x.number (read_line x.line) r

-- after each part of an input, and at its end
pub fed_reached : (x : Replaying) (s : List ℕ) → Reached x.state → Reached (fed x s).state
unfolding fed
fed_reached x [] r = r
fed_reached x (b ∷ s) r =
    fed_reached (cond (is_end b) (answered x) (lengthened x b)) s (both (λ (y : Replaying). Reached y.state) (is_end b) (answered_reached x r) r)

pub replay_reached : (input : List ℕ) → Reached (ended (fed begun input)).state
unfolding ended
replay_reached input =
    let x = fed begun input in
    let r = fed_reached begun input nothing_reached in
    both (λ (y : Replaying). Reached y.state) (eqb (length x.line) 0) r (answered_reached x r)
