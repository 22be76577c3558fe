-- What the contract of each public function says of a call: its result, the next state and each lent byte. A run of calls is made of these statements, so that what is proved of runs speaks of every program that keeps them.
use Rattle.std.specs.Prelude.{ℕ, ◌≡◌, List, [], ◌∷◌, length}
use Rattle.paper.specs.Fresh.{started}
use Rattle.paper.specs.Outcomes.{decide_command, decide_link, decide_reach, outcome_of, buffer_after, routed, opening_of}
use Rattle.paper.specs.Runs.{command, link, Entry}
use Rattle.paper.specs.declared.state.Coordinator.{Coordinator}
use Rattle.paper.specs.declared.outcomes.Outcome.{Outcome}
use Rattle.paper.specs.declared.outcomes.Started.{Started}
use Rattle.paper.specs.declared.outcomes.Opening.{Opening}

-- setup: the bytes of the TransportIDs and of the default LUNs, and the result
abbrev pub SetupKept : List ℕ → List ℕ → Started → Type 0
SetupKept ids luns r = r ≡ started ids luns

-- command: the state, initiator, CDB, parameter bytes, random number and lent buffer; the result, and the buffer after the call
abbrev pub CommandKept : Coordinator → ℕ → List ℕ → List ℕ → ℕ → List ℕ → Outcome → List ℕ → Type 0
CommandKept c i cdb list random buffer r after =
    (r ≡ outcome_of c (decide_command c i cdb list random (length buffer)))
    × (after ≡ buffer_after (decide_command c i cdb list random (length buffer)) buffer)

-- link event
abbrev pub LinkKept : Coordinator → ℕ → Outcome → Type 0
LinkKept c i r = r ≡ outcome_of c (decide_link c i)

-- route question: the initiator and the LUN
abbrev pub RouteKept : Coordinator → ℕ → ℕ → Opening → Type 0
RouteKept c i l r = r ≡ opening_of (routed c i l)

-- reach list: the lent buffer; the result, and the buffer after the call
abbrev pub ReachKept : Coordinator → List ℕ → Outcome → List ℕ → Type 0
ReachKept c buffer r after =
    (r ≡ outcome_of c (decide_reach c (length buffer))) × (after ≡ buffer_after (decide_reach c (length buffer)) buffer)

-- ---- commands and link events one after the other, each handed the state that the last one returned, with the transcript of statements and answers, newest first
pub data Calls (first : Coordinator) : Coordinator → List Entry → Type 0 where
  none_yet : Calls first first []
  commanded : {c : Coordinator} {es : List Entry} {r : Outcome} {after : List ℕ} (i : ℕ) (cdb list : List ℕ) (random : ℕ) (buffer : List ℕ) → Calls first c es → CommandKept c i cdb list random buffer r after → Calls first r.state (record { statement = command i cdb list random; answer = r.answer } ∷ es)
  linked : {c : Coordinator} {es : List Entry} {r : Outcome} (i : ℕ) → Calls first c es → LinkKept c i r → Calls first r.state (record { statement = link i; answer = r.answer } ∷ es)
