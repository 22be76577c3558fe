-- What a REQUEST PROXY TOKEN comes to before a byte is written: a condition, or the unit that the token opens.
use Rattle.std.specs.Prelude.{ℕ, List, [], ◌∷◌, ◌++◌, cond, length, ltb, Result, Ok, Err}
use Rattle.lists.specs.Bytes.{be_bytes, deliver}
use Rattle.paper.specs.Effects.{issued, tokening}
use Rattle.paper.specs.Commands.{Verdict, fails, passes, request_tests}
use Rattle.paper.specs.Outcomes.{Decision, good, judged, in_room, handed_back}
use Rattle.paper.specs.Tables.{tokens_of, with_tokens}
use Rattle.paper.specs.declared.state.Token.{Token}
use Rattle.paper.specs.declared.state.Coordinator.{Coordinator}
use Rattle.paper.specs.declared.answers.Condition.{Condition}
use Rattle.paper.specs.declared.answers.Refusal.TheVariants.{ShortBuffer}
use Rattle.paper.specs.declared.answers.Answer.TheVariants.{Good, Refused}
use Rattle.paper.specs.declared.outcomes.Outcome.{Outcome}

abbrev pub requested : Verdict → ℕ → Result ℕ Condition
requested (fails k) u = Err k
requested passes u = Ok u

-- the decision, given the size of the lent buffer
abbrev pub request_decision : Coordinator → ℕ → ℕ → ℕ → ℕ → Decision
request_decision c i l random room =
    in_room room (judged (request_tests c i l random) (good (tokening (issued i l random) ∷ []) (be_bytes 8 random)))

-- a token is issued, if the lent buffer has room for its eight bytes
abbrev pub outcome_with : Coordinator → Token → ℕ → Outcome
outcome_with c t room =
    cond (ltb room 8) (handed_back c (Refused ShortBuffer) 0) (handed_back (with_tokens c (tokens_of c ++ (t ∷ []))) Good 8)

abbrev pub reply_with : Token → List ℕ → List ℕ
reply_with t buffer = cond (ltb (length buffer) 8) buffer (deliver (be_bytes 8 t.number) buffer)
