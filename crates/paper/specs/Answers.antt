-- "Statuses and numbers": what each case of the answers means in the paper. "Where an answer is an enum, a definition sets out this paper's number and values for each of its cases."
use Rattle.std.specs.Prelude.{ℕ, List, [], ◌∷◌, replicate, Option, Some, None}
use Rattle.paper.specs.declared.answers.Refusal.{Refusal}
use Rattle.paper.specs.declared.answers.Refusal.TheVariants.{BadSetup, BadState, NoInitiator, BadCdb, BadParameters, ShortBuffer}
use Rattle.paper.specs.declared.answers.Condition.{Condition}
use Rattle.paper.specs.declared.answers.Condition.TheVariants.{OtherOperation, InvalidField, WrongLength, WrongKey, BadList, PendingEnrolled, NoAce, EnrolledElsewhere, BadLun, DeadToken, Clash, NoRoom, OpensNothing}
use Rattle.paper.specs.declared.answers.Code.{Code}
use Rattle.paper.specs.declared.answers.Answer.{Answer}
use Rattle.paper.specs.declared.answers.Answer.TheVariants.{Good, Check, Refused}
use Rattle.paper.specs.declared.answers.Opened.{Opened}
use Rattle.paper.specs.declared.answers.Opened.TheVariants.{Opens, Closed, Barred}
use Rattle.paper.specs.declared.answers.Values.{Values}

-- "House refusals, tested in this order. They return the number"
abbrev pub number_of : Refusal → ℕ
number_of BadSetup = 1
number_of BadState = 2
number_of NoInitiator = 3
number_of BadCdb = 4
number_of BadParameters = 5
number_of ShortBuffer = 6

-- the table of codes: the code and its qualifier
abbrev pub coded : ℕ → ℕ → Code
coded code qualifier = record { code = code; qualifier = qualifier }

abbrev pub code_of : Condition → Code
code_of OtherOperation = coded 0x20 0x00
code_of InvalidField = coded 0x24 0x00
code_of WrongLength = coded 0x1A 0x00
code_of WrongKey = coded 0x20 0x03
code_of BadList = coded 0x26 0x00
code_of PendingEnrolled = coded 0x20 0x01
code_of NoAce = coded 0x20 0x02
code_of EnrolledElsewhere = coded 0x20 0x08
code_of BadLun = coded 0x20 0x09
code_of DeadToken = coded 0x20 0x0A
code_of Clash = coded 0x20 0x0B
code_of NoRoom = coded 0x55 0x05
code_of OpensNothing = coded 0x25 0x00

-- "The sense is always 18 bytes, fixed format: 70h, key 05h at byte 2, 0Ah at byte 7, code and qualifier at 12 and 13, other bytes zero."
unfoldable pub sense_bytes : Code → List ℕ
sense_bytes k =
    0x70 ∷ 0 ∷ 0x05 ∷ 0 ∷ 0 ∷ 0 ∷ 0 ∷ 0x0A ∷ 0 ∷ 0 ∷ 0 ∷ 0 ∷ k.code ∷ k.qualifier ∷ 0 ∷ 0 ∷ 0 ∷ 0 ∷ []

abbrev pub sense_of : Condition → List ℕ
sense_of k = sense_bytes (code_of k)

-- ---- an answer: its status, the number of its refusal and its sense
-- "a command answers GOOD (00h, sense all zero) or CHECK CONDITION (02h)"; a refusal has a number and no status
abbrev pub status_of : Answer → Option ℕ
status_of Good = Some 0x00
status_of (Check k) = Some 0x02
status_of (Refused n) = None

-- refusals are numbered from 1; what is not refused has the number 0
abbrev pub number_for : Answer → ℕ
number_for Good = 0
number_for (Check k) = 0
number_for (Refused n) = number_of n

-- of GOOD "sense all zero", and of a refusal too
abbrev pub sense_for : Answer → List ℕ
sense_for Good = replicate 18 0
sense_for (Check k) = sense_of k
sense_for (Refused n) = replicate 18 0

abbrev pub values_of : Answer → Values
values_of a = record { status = status_of a; number = number_for a; sense = sense_for a }

-- the route question is answered by a unit, a CHECK CONDITION or a refusal, and has the values of that answer
abbrev pub answer_of : Opened → Answer
answer_of (Opens u) = Good
answer_of (Closed k) = Check k
answer_of (Barred n) = Refused n
