-- The public functions: what is decided on every input, and the outcome of a decision.
use Rattle.std.specs.Prelude.{ℕ, List, [], cond, not, length, take, eqb, leb, ltb}
use Rattle.std.specs.Prelude.{Option, Some, None}
use Rattle.lists.specs.Bytes.{be_bytes, deliver}
use Rattle.paper.specs.Answers.{values_of, answer_of}
use Rattle.paper.specs.Grounds.{opens_by}
use Rattle.paper.specs.Tables.{units_of}
use Rattle.paper.specs.Rows.{rows_of, row_with, pending_has}
use Rattle.paper.specs.Standing.{standing}
use Rattle.paper.specs.Orders.{Order, report_acl, request_token, manage_acl, disable, enroll, cancel, revoke, revoke_all, assign, release, no_action, Reading, wrong, order, reading_of, length_field, operation, op_out}
use Rattle.paper.specs.Effects.{Effect}
use Rattle.paper.specs.InForce.{in_force, effects, link_effects}
use Rattle.paper.specs.Applied.{applied_all}
use Rattle.paper.specs.Commands.{Verdict, fails, passes, tests}
use Rattle.paper.specs.Reports.{report_bytes, reach_bytes}
use Rattle.paper.specs.declared.state.Row.{Row}
use Rattle.paper.specs.declared.state.Coordinator.{Coordinator}
use Rattle.paper.specs.declared.answers.Refusal.{Refusal}
use Rattle.paper.specs.declared.answers.Refusal.TheVariants.{BadState, NoInitiator, BadCdb, BadParameters, ShortBuffer}
use Rattle.paper.specs.declared.answers.Condition.{Condition}
use Rattle.paper.specs.declared.answers.Condition.TheVariants.{PendingEnrolled, OpensNothing}
use Rattle.paper.specs.declared.answers.Answer.{Answer}
use Rattle.paper.specs.declared.answers.Answer.TheVariants.{Good, Check, Refused}
use Rattle.paper.specs.declared.answers.Opened.{Opened}
use Rattle.paper.specs.declared.answers.Opened.TheVariants.{Opens, Closed, Barred}
use Rattle.paper.specs.declared.outcomes.Outcome.{Outcome}
use Rattle.paper.specs.declared.outcomes.Opening.{Opening}

-- what is decided: a house refusal, a CHECK CONDITION, or GOOD with what takes effect and the bytes to deliver
pub data Decision : Type 0 where
  refuse : Refusal → Decision
  check : Condition → Decision
  good : List Effect → List ℕ → Decision

-- ---- a command
-- "Delivered bytes are the first allocation-length bytes; inner lengths do not shrink." A token is its eight bytes
unfoldable pub reply_to : Coordinator → ℕ → Order → List ℕ
reply_to c random (report_acl key room) = take room (report_bytes c)
reply_to c random (request_token l) = be_bytes 8 random
reply_to c random (manage_acl list) = []
reply_to c random (disable key) = []
reply_to c random (enroll id) = []
reply_to c random cancel = []
reply_to c random (revoke n) = []
reply_to c random (revoke_all l) = []
reply_to c random (assign n l) = []
reply_to c random (release l) = []
reply_to c random no_action = []

abbrev pub judged : Verdict → Decision → Decision
judged (fails k) d = check k
judged passes d = d

-- an order in force
unfoldable pub decide_order : Coordinator → ℕ → ℕ → Order → Decision
decide_order c i random o =
    judged (tests c i random o) (good (effects (units_of c) c.enabled i random o) (reply_to c random o))

unfoldable pub decide_reading : Coordinator → ℕ → ℕ → Reading → Decision
decide_reading c i random (wrong k) = check k
decide_reading c i random (order o) = decide_order c i random (in_force c.enabled o)

-- "parameter bytes given differ in number from CDB bytes 10-13 (OUT), or from 0 (any other operation code)"
abbrev pub owed : List ℕ → ℕ
owed cdb = cond (eqb (operation cdb) op_out) (length_field cdb) 0

-- "6: the command would be GOOD, or the reach list made, but the lent buffer is shorter than the bytes to deliver"
abbrev pub in_room : ℕ → Decision → Decision
in_room room (refuse n) = refuse n
in_room room (check k) = check k
in_room room (good es bytes) = cond (ltb room (length bytes)) (refuse ShortBuffer) (good es bytes)

-- "House refusals, tested in this order."
unfoldable pub decide_command : Coordinator → ℕ → List ℕ → List ℕ → ℕ → ℕ → Decision
decide_command c i cdb list random room =
    cond (not (standing c)) (refuse BadState)
    (cond (leb c.initiators.count i) (refuse NoInitiator)
    (cond (not (eqb (length cdb) 16)) (refuse BadCdb)
    (cond (not (eqb (length list) (owed cdb))) (refuse BadParameters)
    (in_room room (decide_reading c i random (reading_of cdb list))))))

-- ---- a link event
unfoldable pub decide_link : Coordinator → ℕ → Decision
decide_link c i =
    cond (not (standing c)) (refuse BadState)
    (cond (leb c.initiators.count i) (refuse NoInitiator)
    (good (link_effects c.enabled i) []))

-- ---- the reach list
unfoldable pub decide_reach : Coordinator → ℕ → Decision
decide_reach c room = cond (not (standing c)) (refuse BadState) (in_room room (good [] (reach_bytes c)))

-- ---- the outcome of a decision. "They return the number, change no state and write no byte." "A CHECK CONDITION changes nothing." "The rest of the lent buffer keeps its bytes."
abbrev pub handed_back : Coordinator → Answer → ℕ → Outcome
handed_back c a n = record { state = c; answer = a; values = values_of a; delivered = n }

abbrev pub outcome_of : Coordinator → Decision → Outcome
outcome_of c (refuse n) = handed_back c (Refused n) 0
outcome_of c (check k) = handed_back c (Check k) 0
outcome_of c (good es bytes) = handed_back (applied_all c es) Good (length bytes)

abbrev pub buffer_after : Decision → List ℕ → List ℕ
buffer_after (refuse n) buffer = buffer
buffer_after (check k) buffer = buffer
buffer_after (good es bytes) buffer = deliver bytes buffer

-- ---- "Route: the unit of a T, A, X or O row with that LUN; else 20h/01h if W has it; else 25h/00h."
abbrev pub opens_or : Option Row → Condition → Opened
opens_or None k = Closed k
opens_or (Some r) k = Opens r.unit

unfoldable pub opens : ℕ → List Row → Opened
opens l rows = opens_or (row_with opens_by l rows) (cond (pending_has l rows) PendingEnrolled OpensNothing)

unfoldable pub routed : Coordinator → ℕ → ℕ → Opened
routed c i l =
    cond (not (standing c)) (Barred BadState)
    (cond (leb c.initiators.count i) (Barred NoInitiator)
    (opens l (rows_of c i)))

-- an opening with its values
abbrev pub opening_of : Opened → Opening
opening_of o = record { opened = o; values = values_of (answer_of o) }
