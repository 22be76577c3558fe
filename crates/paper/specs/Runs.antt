-- Runs: statements and their answers, and the history that is read from them alone.
use Rattle.std.specs.Prelude.{ℕ, List, [], ◌∷◌, ◌↔◌, Bool}
use Rattle.lists.specs.Lists.{◌∈◌}
use Rattle.lists.specs.Order.{Ascending}
use Rattle.paper.specs.Setup.{Setup}
use Rattle.paper.specs.Fresh.{started}
use Rattle.paper.specs.Orders.{Reading, wrong, order, reading_of}
use Rattle.paper.specs.Effects.{Effect}
use Rattle.paper.specs.InForce.{in_force, effects, link_effects}
use Rattle.paper.specs.Reports.{row_before}
use Rattle.paper.specs.Outcomes.{Decision, decide_command, decide_link, outcome_of}
use Rattle.paper.specs.Readings.{History, is_on}
use Rattle.paper.specs.declared.state.Row.{Row}
use Rattle.paper.specs.declared.state.Coordinator.{Coordinator}
use Rattle.paper.specs.declared.answers.Answer.{Answer}
use Rattle.paper.specs.declared.answers.Answer.TheVariants.{Good, Check, Refused}

-- ---- statements that can change something, and the transcript of them with their answers, newest first
pub data Statement : Type 0 where
  command : ℕ → List ℕ → List ℕ → ℕ → Statement  -- initiator, CDB, parameter bytes, random number
  link : ℕ → Statement  -- initiator

pub record Entry : Type 0 where
  pub statement : Statement
  pub answer : Answer

-- ---- what took effect
-- what a statement puts into effect where it is answered GOOD: read from its bytes, the setup's default LUNs and whether access controls are on
abbrev pub reading_effects : List ℕ → Bool → ℕ → ℕ → Reading → List Effect
reading_effects luns on i random (wrong k) = []
reading_effects luns on i random (order o) = effects luns on i random (in_force on o)

unfoldable pub statement_effects : List ℕ → Bool → Statement → List Effect
statement_effects luns on (command i cdb list random) = reading_effects luns on i random (reading_of cdb list)
statement_effects luns on (link i) = link_effects on i

-- "A CHECK CONDITION changes nothing.", nor does a refusal
abbrev pub answered_effects : Answer → List Effect → List Effect
answered_effects Good es = es
answered_effects (Check k) es = []
answered_effects (Refused n) es = []

-- effects one after the other, onto a history
unfoldable pub onto : List Effect → History → History
onto [] h = h
onto (e ∷ es) h = onto es (e ∷ h)

unfoldable pub took : Setup → List Entry → History
took w [] = []
took w (x ∷ xs) =
    onto (answered_effects x.answer (statement_effects w.luns (is_on (took w xs)) x.statement)) (took w xs)

-- ---- a list names what a statement about rows says: "every ground of access that stands, each once, in order, and no other"
abbrev pub Names : List Row → (Row → Type 0) → Type 0
Names l P = Ascending row_before l × ((r : Row) → (r ∈ l) ↔ P r)

-- ---- a run: statements with the size of the buffer lent with each, newest first
pub record Sent : Type 0 where
  pub statement : Statement
  pub room : ℕ

pub record Run : Type 0 where
  pub state : Coordinator
  pub entries : List Entry

abbrev pub decide_statement : Coordinator → ℕ → Statement → Decision
decide_statement c room (command i cdb list random) = decide_command c i cdb list random room
decide_statement c room (link i) = decide_link c i

abbrev pub ran_on : Run → Sent → Run
ran_on r s =
    record {
      state = (outcome_of r.state (decide_statement r.state s.room s.statement)).state;
      entries =
          record {
            statement = s.statement;
            answer = (outcome_of r.state (decide_statement r.state s.room s.statement)).answer;
          }
          ∷ r.entries;
    }

unfoldable pub run_from : Coordinator → List Sent → Run
run_from c [] = record { state = c; entries = [] }
run_from c (s ∷ ss) = ran_on (run_from c ss) s

-- from a setup's bytes
abbrev pub run : List ℕ → List ℕ → List Sent → Run
run ids luns ss = run_from (started ids luns).state ss
