-- What each command tests, in the paper's order.
use Rattle.std.specs.Prelude.{ℕ, List, Bool, false, cond, not, ◌&&◌, ◌||◌, eqb, leb, ltb}
use Rattle.lists.specs.Lists.{any, all, pairs, is_some}
use Rattle.lists.specs.Pages.{whole_page}
use Rattle.wire.specs.Lun.{lun_form}
use Rattle.paper.specs.Sizes.{max_aces, max_luacds, max_tokens, max_proxies}
use Rattle.paper.specs.Identifiers.{same_id, kept}
use Rattle.paper.specs.Grounds.{is_ta}
use Rattle.paper.specs.Contents.{Enrolment, not_enrolled, enrolled, pending}
use Rattle.paper.specs.Tables.{units_of, enrolment_of, aces_of, tokens_of, proxies_of}
use Rattle.paper.specs.Rows.{token_for, rows_of, clash_for, some_clash, has_lun, row_with, pending_has}
use Rattle.paper.specs.Standing.{has_ace}
use Rattle.paper.specs.Orders.{Order, report_acl, request_token, manage_acl, disable, enroll, cancel, revoke, revoke_all, assign, release, no_action}
use Rattle.paper.specs.Effects.{joined, enrolling}
use Rattle.paper.specs.Pages.{key_in, generation_in, ace_pages, bad_page, same_grant, bad_places, manage_effects}
use Rattle.paper.specs.Applied.{is_proxy, applied, applied_all}
use Rattle.paper.specs.declared.state.IdType.TheVariants.{AccessId}
use Rattle.paper.specs.declared.state.Ace.{Ace}
use Rattle.paper.specs.declared.state.Coordinator.{Coordinator}
use Rattle.paper.specs.declared.answers.Condition.{Condition}
use Rattle.paper.specs.declared.answers.Condition.TheVariants.{WrongLength, WrongKey, BadList, PendingEnrolled, NoAce, EnrolledElsewhere, BadLun, DeadToken, Clash, NoRoom}

pub data Verdict : Type 0 where
  fails : Condition → Verdict
  passes : Verdict

-- a test that fails with a condition, and what is tested next
abbrev pub failing : Bool → Condition → Verdict → Verdict
failing b k next = cond b (fails k) next

-- "20h/03h: wrong key"; "Disabled: key ignored."
abbrev pub wrong_key : Coordinator → ℕ → Bool
wrong_key c key = c.enabled && not (eqb key c.key)

-- ---- MANAGE ACL: "Phases over the whole list, the first that fails answering"
-- "3. 26h/00h: DLgeneration is not the current one (0 disabled, 1 enabled); a page code over 03h; .. two grant pages (00h or 01h) with one type and identifier."
unfoldable pub malformed : Coordinator → List ℕ → Bool
malformed c list =
    not (eqb (generation_in list) c.generation) || (any bad_page (ace_pages list) || pairs same_grant (ace_pages list))

-- the end state
abbrev pub managed : Coordinator → List ℕ → Coordinator
managed c list = applied_all c (manage_effects (units_of c) c.enabled list)

-- "5. 55h/05h: in the end state, over 32 ACEs or over 16 LUACDs in one."
abbrev pub many_luacds : Ace → Bool
many_luacds a = ltb max_luacds a.count

unfoldable pub too_many : Coordinator → Bool
too_many c = ltb max_aces c.acl.count || any many_luacds (aces_of c)

unfoldable pub manage_tests : Coordinator → List ℕ → Verdict
manage_tests c list =
    failing (not (all whole_page (ace_pages list))) WrongLength
    (failing (wrong_key c (key_in list)) WrongKey
    (failing (malformed c list) BadList
    (failing (any (bad_places (units_of c)) (ace_pages list)) BadLun
    (failing (too_many (managed c list)) NoRoom
    (failing (some_clash (managed c list)) Clash
    passes)))))

-- ---- the others
unfoldable pub key_tests : Coordinator → ℕ → Verdict
key_tests c key = failing (wrong_key c key) WrongKey passes

-- "20h/08h: already enrolled or pending under another AccessID"
abbrev pub elsewhere : List ℕ → Enrolment → Bool
elsewhere id not_enrolled = false
elsewhere id (enrolled a) = not (same_id AccessId a AccessId id)
elsewhere id (pending a) = not (same_id AccessId a AccessId id)

-- "ENROLL checks 20h/08h, 20h/02h, 20h/0Bh, then enrols"
unfoldable pub enroll_tests : Coordinator → ℕ → List ℕ → Verdict
enroll_tests c i id =
    failing (elsewhere id (enrolment_of c i)) EnrolledElsewhere
    (failing (not (has_ace c id)) NoAce
    (failing (clash_for (applied c (enrolling (joined i (kept AccessId id)))) i) Clash
    passes))

-- "the LUN must open by a T or A row; with neither, 20h/01h if W has it, else 20h/09h. Then 55h/05h if 32 are live, or if the 64-bit random number given with the call is zero or a live token."
unfoldable pub request_tests : Coordinator → ℕ → ℕ → ℕ → Verdict
request_tests c i l random =
    failing (not (is_some (row_with is_ta l (rows_of c i)))) (cond (pending_has l (rows_of c i)) PendingEnrolled BadLun)
    (failing (leb max_tokens c.tokens.count) NoRoom
    (failing (eqb random 0 || is_some (token_for (tokens_of c) random)) NoRoom
    passes))

-- "ASSIGN checks 20h/0Ah; 20h/09h (form, or any row of the caller has the LUN); 55h/05h exactly when 32 proxy LUNs stand."
unfoldable pub assign_tests : Coordinator → ℕ → ℕ → ℕ → Verdict
assign_tests c i n l =
    failing (not (is_some (token_for (tokens_of c) n))) DeadToken
    (failing (not (lun_form l) || any (has_lun l) (rows_of c i)) BadLun
    (failing (leb max_proxies c.proxies.count) NoRoom
    passes))

-- "RELEASE: 20h/09h unless the caller has that proxy LUN."
unfoldable pub release_tests : Coordinator → ℕ → ℕ → Verdict
release_tests c i l = failing (not (any (is_proxy i l) (proxies_of c))) BadLun passes

-- what an order in force tests
unfoldable pub tests : Coordinator → ℕ → ℕ → Order → Verdict
tests c i random (report_acl key room) = key_tests c key
tests c i random (request_token l) = request_tests c i l random
tests c i random (manage_acl list) = manage_tests c list
tests c i random (disable key) = key_tests c key
tests c i random (enroll id) = enroll_tests c i id
tests c i random cancel = passes
tests c i random (revoke n) = passes
tests c i random (revoke_all l) = passes
tests c i random (assign n l) = assign_tests c i n l
tests c i random (release l) = release_tests c i l
tests c i random no_action = passes
