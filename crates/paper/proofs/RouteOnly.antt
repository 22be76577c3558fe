-- "25h/00h: the LUN opens nothing (from the route question only)": no command is answered so, whatever its bytes.
use Prim.Native.Nat.{ℕ}
use mathlib.Core.Path.{◌≡◌, refl, ap}
use mathlib.Core.List.{List}
use mathlib.Core.Bool.{Bool, true, false, not, ◌||◌}
use lib.ListN.{length}
use lib.Dec.{eqb, leb, ltb}
use Rattle.lists.specs.Lists.{any, all, is_some}
use Rattle.lists.specs.Pages.{whole_page}
use Rattle.lists.proofs.Tests.{both, clashes}
use Rattle.wire.specs.Lun.{lun_form}
use Rattle.paper.specs.Sizes.{max_tokens, max_proxies}
use Rattle.paper.specs.Identifiers.{kept}
use Rattle.paper.specs.Grounds.{is_ta}
use Rattle.paper.specs.Tables.{units_of, enrolment_of, tokens_of, proxies_of}
use Rattle.paper.specs.Rows.{token_for, rows_of, clash_for, some_clash, has_lun, row_with, pending_has}
use Rattle.paper.specs.Standing.{has_ace, standing}
use Rattle.paper.specs.Orders.{Order, report_acl, request_token, manage_acl, disable, enroll, cancel, revoke, revoke_all, assign, release, no_action, Reading, wrong, order, service_action, length_field, operation, op_in, op_out, read_in, exactly, read_manage, read_cancel, read_out, reading_of}
use Rattle.paper.specs.Effects.{joined, Effect, enrolling}
use Rattle.paper.specs.Pages.{key_in, ace_pages, bad_places}
use Rattle.paper.specs.InForce.{in_force}
use Rattle.paper.specs.Applied.{is_proxy, applied}
use Rattle.paper.specs.Commands.{Verdict, fails, passes, wrong_key, malformed, managed, too_many, manage_tests, key_tests, elsewhere, enroll_tests, request_tests, assign_tests, release_tests, tests}
use Rattle.paper.specs.Outcomes.{Decision, refuse, check, good, judged, owed, in_room, decide_order, decide_reading, decide_command, outcome_of}
use Rattle.paper.specs.declared.state.IdType.TheVariants.{AccessId}
use Rattle.paper.specs.declared.state.Coordinator.{Coordinator}
use Rattle.paper.specs.declared.answers.Refusal.{Refusal}
use Rattle.paper.specs.declared.answers.Condition.{Condition}
use Rattle.paper.specs.declared.answers.Condition.TheVariants.{OtherOperation, InvalidField, WrongLength, WrongKey, BadList, PendingEnrolled, NoAce, EnrolledElsewhere, BadLun, DeadToken, Clash, NoRoom, OpensNothing}
use Rattle.paper.specs.declared.answers.Answer.{Answer}
use Rattle.paper.specs.declared.answers.Answer.TheVariants.{Good, Check, Refused}

-- ---- answers that are not 25h/00h
abbrev other : Condition → Bool
other OtherOperation = true
other InvalidField = true
other WrongLength = true
other WrongKey = true
other BadList = true
other PendingEnrolled = true
other NoAce = true
other EnrolledElsewhere = true
other BadLun = true
other DeadToken = true
other Clash = true
other NoRoom = true
other OpensNothing = false

abbrev other_answer : Answer → Bool
other_answer Good = true
other_answer (Check k) = other k
other_answer (Refused n) = true

data Read : Reading → Type 0 where
  wrongly : {k : Condition} → other k ≡ true → Read (wrong k)
  ordered : {o : Order} → Read (order o)

data Clear : Verdict → Type 0 where
  failed : {k : Condition} → other k ≡ true → Clear (fails k)
  passed : Clear passes

data Other : Decision → Type 0 where
  refusal : {n : Refusal} → Other (refuse n)
  checked : {k : Condition} → other k ≡ true → Other (check k)
  fine : {es : List Effect} {bytes : List ℕ} → Other (good es bytes)

-- ---- reading a command
read_exactly : (n : ℕ) (list : List ℕ) (o : Order) → Read (exactly n list o)
unfolding exactly
read_exactly n list o = both Read (eqb (length list) 0) ordered (both Read (eqb (length list) n) ordered (wrongly refl))

read_manage_lem : (list : List ℕ) → Read (read_manage list)
unfolding read_manage
read_manage_lem list = both Read (eqb (length list) 0) ordered (both Read (ltb (length list) 28) (wrongly refl) ordered)

read_cancel_lem : (list : List ℕ) → Read (read_cancel list)
unfolding read_cancel
read_cancel_lem list = both Read (eqb (length list) 0) ordered (wrongly refl)

read_out_lem : (action : ℕ) (list : List ℕ) → Read (read_out action list)
unfolding read_out
read_out_lem action list =
    both Read (eqb action 0x00) (read_manage_lem list)
    (both Read (eqb action 0x01) (read_exactly _ list _)
    (both Read (eqb action 0x02) (read_exactly _ list _)
    (both Read (eqb action 0x03) (read_cancel_lem list)
    (both Read (eqb action 0x07) (read_exactly _ list _)
    (both Read (eqb action 0x08) (read_exactly _ list _)
    (both Read (eqb action 0x09) (read_exactly _ list _)
    (both Read (eqb action 0x0A) (read_exactly _ list _)
    (wrongly refl))))))))

read_in_lem : (cdb : List ℕ) → Read (read_in cdb)
unfolding read_in
read_in_lem cdb =
    both Read (eqb (service_action cdb) 0x00) ordered
    (both Read (eqb (service_action cdb) 0x04) (both Read (ltb (length_field cdb) 8) (wrongly refl) ordered)
    (wrongly refl))

read : (cdb list : List ℕ) → Read (reading_of cdb list)
unfolding reading_of
read cdb list =
    both Read (eqb (operation cdb) op_in) (read_in_lem cdb)
    (both Read (eqb (operation cdb) op_out) (read_out_lem (service_action cdb) list)
    (wrongly refl))

-- ---- testing an order
test_manage : (c : Coordinator) (list : List ℕ) → Clear (manage_tests c list)
unfolding manage_tests
test_manage c list =
    both Clear (not (all whole_page (ace_pages list))) (failed refl)
    (both Clear (wrong_key c (key_in list)) (failed refl)
    (both Clear (malformed c list) (failed refl)
    (both Clear (any (bad_places (units_of c)) (ace_pages list)) (failed refl)
    (both Clear (too_many (managed c list)) (failed refl)
    (both Clear (some_clash (managed c list)) (failed refl)
    passed)))))

test_enroll : (c : Coordinator) (i : ℕ) (id : List ℕ) → Clear (enroll_tests c i id)
unfolding enroll_tests
test_enroll c i id =
    both Clear (elsewhere id (enrolment_of c i)) (failed refl)
    (both Clear (not (has_ace c id)) (failed refl)
    (both Clear (clash_for (applied c (enrolling (joined i (kept AccessId id)))) i) (failed refl)
    passed))

test_request : (c : Coordinator) (i l random : ℕ) → Clear (request_tests c i l random)
unfolding request_tests
test_request c i l random =
    both Clear (not (is_some (row_with is_ta l (rows_of c i)))) (failed (both (λ k. other k ≡ true) (pending_has l (rows_of c i)) refl refl))
    (both Clear (leb max_tokens c.tokens.count) (failed refl)
    (both Clear (eqb random 0 || is_some (token_for (tokens_of c) random)) (failed refl)
    passed))

test_assign : (c : Coordinator) (i n l : ℕ) → Clear (assign_tests c i n l)
unfolding assign_tests
test_assign c i n l =
    both Clear (not (is_some (token_for (tokens_of c) n))) (failed refl)
    (both Clear (not (lun_form l) || any (has_lun l) (rows_of c i)) (failed refl)
    (both Clear (leb max_proxies c.proxies.count) (failed refl)
    passed))

tested : (c : Coordinator) (i random : ℕ) (o : Order) → Clear (tests c i random o)
unfolding tests key_tests release_tests
tested c i random (report_acl key room) = both Clear (wrong_key c key) (failed refl) passed
tested c i random (request_token l) = test_request c i l random
tested c i random (manage_acl list) = test_manage c list
tested c i random (disable key) = both Clear (wrong_key c key) (failed refl) passed
tested c i random (enroll id) = test_enroll c i id
tested c i random cancel = passed
tested c i random (revoke n) = passed
tested c i random (revoke_all l) = passed
tested c i random (assign n l) = test_assign c i n l
tested c i random (release l) = both Clear (not (any (is_proxy i l) (proxies_of c))) (failed refl) passed
tested c i random no_action = passed

-- ---- deciding
judge : {v : Verdict} {d : Decision} → Clear v → Other d → Other (judged v d)
judge (failed h) o = checked h
judge passed o = o

decided : (c : Coordinator) (i random : ℕ) {r : Reading} → Read r → Other (decide_reading c i random r)
unfolding decide_reading decide_order
decided c i random (wrongly h) = checked h
decided c i random (ordered {o}) = judge (tested c i random (in_force c.enabled o)) fine

roomed : (room : ℕ) {d : Decision} → Other d → Other (in_room room d)
roomed room refusal = refusal
roomed room (checked h) = checked h
roomed room (fine {bytes = bytes}) = both Other (ltb room (length bytes)) refusal fine

command : (c : Coordinator) (i : ℕ) (cdb list : List ℕ) (random room : ℕ) → Other (decide_command c i cdb list random room)
unfolding decide_command
command c i cdb list random room =
    both Other (not (standing c)) refusal
    (both Other (leb c.initiators.count i) refusal
    (both Other (not (eqb (length cdb) 16)) refusal
    (both Other (not (eqb (length list) (owed cdb))) refusal
    (roomed room (decided c i random (read cdb list))))))

told : (c : Coordinator) {d : Decision} → Other d → other_answer (outcome_of c d).answer ≡ true
told c refusal = refl
told c (checked h) = h
told c fine = refl

pub route_only : (c : Coordinator) (i : ℕ) (cdb list : List ℕ) (random room : ℕ) → (outcome_of c (decide_command c i cdb list random room)).answer ≡ Check OpensNothing → ⊥
route_only c i cdb list random room e =
    clashes (told c (command c i cdb list random room)) (ap other_answer e)
