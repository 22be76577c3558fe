-- "The cases marked * go into one table, proved by a single statement over the definitions."
-- Commands, lists and reports stand here as their bytes, so each case runs through every definition on its way.
use Prim.Native.Nat.{ℕ}
use mathlib.Core.Path.{◌≡◌, refl}
use mathlib.Core.Bool.{true}
use mathlib.Core.List.{List, [], ◌∷◌, map}
use lib.ListN.{replicate}
use Rattle.lists.specs.Lists.{place_of, pairs, gather, parts, count}
use Rattle.lists.specs.Order.{insert, sort}
use Rattle.lists.specs.Bytes.{be, be_bytes, same_bytes, less_bytes}
use Rattle.lists.specs.Pages.{page_size, pages_up_to, pages_of, whole_page}
use Rattle.wire.specs.Lun.{head_of}
use Rattle.paper.specs.Identifiers.{same_id, less_id, valid_transport}
use Rattle.paper.specs.Answers.{sense_bytes, sense_of}
use Rattle.paper.specs.Setup.{setup_in, setup_rules, ids_in, luns_in, accepted}
use Rattle.paper.specs.Contents.{numbered}
use Rattle.paper.specs.Fresh.{fresh, started}
use Rattle.paper.specs.Rows.{ace_for, transport_rows, enrolment_rows, token_for, proxy_rows, open_rows, rows_of, clashing, some_clash, row_with, pending_has}
use Rattle.paper.specs.Standing.{setup_kept, within_sizes, identifiers_once, present_once, luacds_once, lists_filled, well_formed, tokens_nonzero, references_there, no_clash, generation_right, empty_while_off, standing}
use Rattle.paper.specs.Orders.{read_in, exactly, read_manage, read_cancel, read_out, reading_of}
use Rattle.paper.specs.Pages.{ace_pages, descriptor_in, descriptors_in, not_overruled, page_luacds, bad_identifier, bad_list_page, bad_all_page, bad_page, same_grant, bad_places, tokens_in, page_effects, manage_effects}
use Rattle.paper.specs.InForce.{in_force, effects}
use Rattle.paper.specs.Applied.{put_ace, applied, applied_all}
use Rattle.paper.specs.Commands.{malformed, too_many, manage_tests, key_tests, enroll_tests, request_tests, assign_tests, release_tests, tests}
use Rattle.paper.specs.Reports.{luacd_bytes, identifier_bytes, ace_bytes, token_bytes, proxy_page, report_pages, report_bytes, row_before, reach_rows, row_bytes, reach_bytes}
use Rattle.paper.specs.Outcomes.{reply_to, decide_order, decide_reading, decide_command, decide_link, outcome_of}
use Rattle.paper.specs.Runs.{Sent, run_from, decide_statement}
use Rattle.paper.proofs.Sending.{transport, access, shelf, small, luacd, grant, manage, out, linked}
use Rattle.paper.specs.declared.state.Coordinator.{Coordinator}
use Rattle.paper.specs.declared.answers.Condition.TheVariants.{Clash}

-- ---- what is seen of a run: the sense of the last statement, the reach list, the report
abbrev reached : Coordinator → List Sent → List ℕ
reached c ss = reach_bytes (run_from c ss).state

abbrev last_sense : Coordinator → List Sent → Sent → List ℕ
last_sense c ss s =
    (outcome_of (run_from c ss).state (decide_statement (run_from c ss).state s.room s.statement)).values.sense

-- the LUACDs of a page that stand, each as its LUN and its unit
abbrev placed : List (List ℕ) → List ℕ
placed ds = gather (λ p. p.lun ∷ (p.unit ∷ [])) (page_luacds (map head_of (luns_in shelf)) (grant 0 access ds))

-- T has 1 to u0, and an AccessID's ACE has a LUN to a unit
abbrev granted : ℕ → ℕ → List Sent
granted nn u = out 0x00 (manage 0 (grant 1 transport (luacd 1 0 ∷ []) ∷ (grant 0 access (luacd nn u ∷ []) ∷ []))) ∷ []

abbrev enrolling : Sent
enrolling = out 0x02 access

-- the AccessID's ACE has 2 to u1, the initiator is enrolled under it, and its link was lost
abbrev pending_run : List Sent
pending_run =
    linked
    ∷ (enrolling ∷ (out 0x00 (manage 0 (grant 0 access (luacd 2 1 ∷ []) ∷ [])) ∷ []))

abbrev on : List Sent
on = out 0x00 (manage 0 []) ∷ []

pub record Case : Type 0 where
  pub got : List ℕ
  pub paper : List ℕ

abbrev case : List ℕ → List ℕ → Case
case got paper = record { got = got; paper = paper }

-- "20h/0Bh: 70 00 05 00 00 00 00 0A 00 00 00 00 20 0B 00 00 00 00."
abbrev clash_sense : List ℕ
clash_sense = 0x70 ∷ 0x00 ∷ 0x05 ∷ 0x00 ∷ 0x00 ∷ 0x00 ∷ 0x00 ∷ 0x0A ∷ 0x00 ∷ 0x00 ∷ 0x00 ∷ 0x00 ∷ 0x20 ∷ 0x0B ∷ 0x00 ∷ 0x00 ∷ 0x00 ∷ 0x00 ∷ []

-- the table, for the coordinators that the setups of the shelf and of the small one start
unfoldable pub cases : Coordinator → Coordinator → List Case
cases c d =
    -- "LUACDs (1,u1),(2,u2),(1,u2): only (1,u2) stands."
    case (placed (luacd 1 1 ∷ (luacd 2 2 ∷ (luacd 1 2 ∷ [])))) (1 ∷ 2 ∷ [])
    -- "(1,u1),(1,u2),(2,u2): only (2,u2)."
    ∷ case (placed (luacd 1 1 ∷ (luacd 1 2 ∷ (luacd 2 2 ∷ [])))) (2 ∷ 2 ∷ [])
    -- "T has 1 to u0. AccessID ACE 1 to u1: ENROLL 20h/0Bh."
    ∷ case (last_sense c (granted 1 1) enrolling) clash_sense
    -- "1 to u0: GOOD, rows A and T."
    ∷ case (last_sense c (granted 1 0) enrolling) (replicate 18 0)
    ∷ case (reached c (enrolling ∷ granted 1 0))
    (0x00 ∷ 0x00 ∷ 0x00 ∷ 0x0C ∷ 0x01 ∷ 0x01 ∷ 0x00 ∷ 0x02 ∷ 0x00 ∷ 0x01 ∷ 0x00 ∷ 0x41 ∷ 0x00 ∷ 0x01 ∷ 0x00 ∷ 0x54 ∷ [])
    -- "2 to u0: 20h/0Bh."
    ∷ case (last_sense c (granted 2 0) enrolling) clash_sense
    -- not marked, but a mistake of the trade: a pending initiator's W row clashes with a T row that a list would give it
    ∷ case (last_sense c pending_run (out 0x00 (manage 1 (grant 1 transport (luacd 2 0 ∷ []) ∷ [])))) clash_sense
    -- "Enabled, no rows: 00 00 00 04 01 01 00 00."
    ∷ case (reached c on) (0x00 ∷ 0x00 ∷ 0x00 ∷ 0x04 ∷ 0x01 ∷ 0x01 ∷ 0x00 ∷ 0x00 ∷ [])
    -- "Initiator 0, T, LUN 1, unit 0: 00 00 00 08 01 01 00 01 00 01 00 54."
    ∷ case (reached c (granted 1 0))
    (0x00 ∷ 0x00 ∷ 0x00 ∷ 0x08 ∷ 0x01 ∷ 0x01 ∷ 0x00 ∷ 0x01 ∷ 0x00 ∷ 0x01 ∷ 0x00 ∷ 0x54 ∷ [])
    -- "Disabled, one initiator, one unit at 5: 00 00 00 08 01 00 00 01 00 05 00 4F."
    ∷ case (reached d [])
    (0x00 ∷ 0x00 ∷ 0x00 ∷ 0x08 ∷ 0x01 ∷ 0x00 ∷ 0x00 ∷ 0x01 ∷ 0x00 ∷ 0x05 ∷ 0x00 ∷ 0x4F ∷ [])
    -- "REPORT ACL, on and empty: 00 00 00 04 00 00 00 01."
    ∷ case (report_bytes (run_from c on).state) (0x00 ∷ 0x00 ∷ 0x00 ∷ 0x04 ∷ 0x00 ∷ 0x00 ∷ 0x00 ∷ 0x01 ∷ [])
    -- "20h/0Bh: 70 00 05 .."
    ∷ case (sense_of Clash) clash_sense
    ∷ []

abbrev pub Right : Coordinator → Coordinator → Type 0
Right c d = map (λ x. x.got) (cases c d) ≡ map (λ x. x.paper) (cases c d)

computed : Right (fresh (setup_in transport shelf)) (fresh (setup_in transport small))
unfolding place_of pairs parts count insert sort be be_bytes same_bytes less_bytes page_size pages_up_to pages_of whole_page same_id less_id valid_transport sense_bytes setup_rules ids_in luns_in numbered fresh ace_for transport_rows enrolment_rows token_for proxy_rows open_rows rows_of clashing some_clash row_with pending_has setup_kept within_sizes identifiers_once present_once luacds_once lists_filled well_formed tokens_nonzero references_there no_clash generation_right empty_while_off standing read_in exactly read_manage read_cancel read_out reading_of ace_pages descriptor_in descriptors_in not_overruled page_luacds bad_identifier bad_list_page bad_all_page bad_page same_grant bad_places tokens_in page_effects manage_effects in_force effects put_ace applied applied_all malformed too_many manage_tests key_tests enroll_tests request_tests assign_tests release_tests tests luacd_bytes identifier_bytes ace_bytes token_bytes proxy_page report_pages report_bytes row_before reach_rows row_bytes reach_bytes reply_to decide_order decide_reading decide_command decide_link run_from cases
computed = refl

begun : (luns : List ℕ) → accepted transport luns ≡ true → (started transport luns).state ≡ fresh (setup_in transport luns)
unfolding started
begun luns h = rw h

-- both setups' bytes keep the rules
kept : (accepted transport shelf ≡ true) × (accepted transport small ≡ true)
unfolding accepted setup_rules ids_in luns_in pairs parts be be_bytes same_bytes valid_transport
kept = (refl, refl)

pub starred : Right (started transport shelf).state (started transport small).state
starred = rw (begun shelf kept.0, begun small kept.1) computed
