-- Coordinators that demand 3 shuts out. A coordinator that leaves a test out behaves, where that test alone would have failed, like one that tests nothing; after each of these transcripts its reach list names a row that does not stand.
use Prim.Native.Nat.{ℕ, ◌+◌}
use mathlib.Core.Path.{◌≡◌, refl, sym, ◌∙◌}
use mathlib.Core.List.{List, [], ◌∷◌, map}
use Rattle.std.specs.Prelude.{None}
use native.Mathlib.Omega.{arith}
use Rattle.lists.specs.Lists.{◌∈◌, here, there, place_of, parts, count, nth}
use Rattle.lists.specs.Order.{insert, sort}
use Rattle.lists.specs.Bytes.{be, be_bytes, same_bytes}
use Rattle.lists.specs.Pages.{page_size, pages_up_to, pages_of}
use Rattle.lists.proofs.Tests.{none_not_some}
use Rattle.wire.specs.Lun.{lun_of}
use Rattle.paper.specs.Identifiers.{same_id}
use Rattle.paper.specs.Setup.{Setup}
use Rattle.paper.specs.Contents.{numbered}
use Rattle.paper.specs.Fresh.{fresh}
use Rattle.paper.specs.Rows.{ace_for, transport_rows, enrolment_rows, token_for, proxy_rows, open_rows, rows_of, row_with}
use Rattle.paper.specs.Orders.{read_in, exactly, read_manage, read_cancel, read_out, reading_of}
use Rattle.paper.specs.Pages.{ace_pages, descriptor_in, descriptors_in, not_overruled, page_luacds, tokens_in, page_effects, manage_effects}
use Rattle.paper.specs.InForce.{in_force, effects}
use Rattle.paper.specs.Applied.{put_ace, applied, applied_all}
use Rattle.paper.specs.Reports.{row_before, reach_rows}
use Rattle.paper.specs.Readings.{is_on, last_page, enrolment, place_named, token, proxy_token, Stands}
use Rattle.paper.specs.Runs.{Statement, Entry, statement_effects, onto, took, Names}
use Rattle.paper.proofs.Sending.{transport, luacd, luacd_at, grant, manage, out_of, request_of, assign_of}
use Rattle.paper.specs.declared.state.Row.{Row}
use Rattle.paper.specs.declared.state.Coordinator.{Coordinator}
use Rattle.paper.specs.declared.state.Ground.TheVariants.{GroundT, GroundX}
use Rattle.paper.specs.declared.answers.Answer.TheVariants.{Good}

-- one initiator, three units
abbrev pub three : Setup
three = record { transports = transport ∷ []; luns = 5 ∷ (6 ∷ (7 ∷ [])) }

-- ---- a coordinator that tests nothing: every statement, newest first, is answered GOOD and takes effect
unfoldable pub untested : List Statement → Coordinator
untested [] = fresh three
untested (s ∷ ss) = applied_all (untested ss) (statement_effects three.luns (untested ss).enabled s)

abbrev pub transcript : List Statement → List Entry
transcript ss = map (λ s. record { statement = s; answer = Good }) ss

-- its reach list names what stands in the history of that transcript
abbrev pub Agrees : List Statement → Type 0
Agrees ss = Names (reach_rows (untested ss)) (Stands three (took three (transcript ss)))

abbrev by_x : ℕ → ℕ → Row
by_x l u = record { initiator = 0; lun = l; unit = u; ground = GroundX }

abbrev by_t : ℕ → ℕ → Row
by_t l u = record { initiator = 0; lun = l; unit = u; ground = GroundT }

-- a row of an agreeing list stands
stands : (ss : List Statement) (r : Row) → r ∈ reach_rows (untested ss) → Agrees ss → Stands three (took three (transcript ss)) r
stands ss r m a = (a.1 r).0 m

-- ---- the transcripts: access controls go on, and then
-- REQUEST of a LUN that opens nothing, and ASSIGN of that token
abbrev naming : List Statement
naming = assign_of 1 (lun_of 3) ∷ (request_of 9 1 ∷ (out_of 0x00 (manage 0 []) ∷ []))

-- a list with a default LUN no unit has: phase 4
abbrev absent : List Statement
absent = out_of 0x00 (manage 0 (grant 1 transport (luacd_at (lun_of 1) 9 ∷ []) ∷ [])) ∷ []

-- a list with a LUN of another form: phase 4
abbrev misformed : List Statement
misformed = out_of 0x00 (manage 0 (grant 1 transport (luacd_at (lun_of 256) 5 ∷ []) ∷ [])) ∷ []

-- ASSIGN of a LUN of another form: unit 0 by T at LUN 1, a token for it, assigned to 00h 03h and a last byte 01h
abbrev assigning : List Statement
assigning =
    assign_of 1 (lun_of 3 + 1)
    ∷ (request_of 1 1 ∷ (out_of 0x00 (manage 0 (grant 1 transport (luacd 1 0 ∷ []) ∷ [])) ∷ []))

-- what that coordinator's reach list has
rows : (reach_rows (untested naming) ≡ by_x 3 0 ∷ []) × (reach_rows (untested absent) ≡ by_t 1 3 ∷ []) × (reach_rows (untested misformed) ≡ by_t 256 0 ∷ []) × (reach_rows (untested assigning) ≡ by_t 1 0 ∷ (by_x 3 0 ∷ []))
unfolding untested statement_effects reading_of read_in read_out exactly read_manage read_cancel in_force effects manage_effects page_effects ace_pages page_size pages_of pages_up_to page_luacds not_overruled descriptors_in descriptor_in tokens_in applied applied_all fresh put_ace be be_bytes is_on reach_rows rows_of transport_rows enrolment_rows open_rows proxy_rows token_for ace_for row_with row_before sort insert count parts place_of same_id same_bytes numbered
rows = (refl, refl, refl, refl)

-- the history knows no token behind these proxy LUNs
unknown : (proxy_token three (took three (transcript naming)) 0 (lun_of 3) ≡ None) × (proxy_token three (took three (transcript assigning)) 0 (lun_of 3) ≡ None)
unfolding took onto statement_effects reading_of read_in read_out exactly read_manage read_cancel in_force effects manage_effects page_effects ace_pages page_size pages_of pages_up_to page_luacds not_overruled descriptors_in descriptor_in tokens_in be be_bytes is_on proxy_token token place_named last_page enrolment parts place_of nth same_id same_bytes
unknown = (refl, refl)

-- ---- none of them agrees
-- without the test of the LUN in REQUEST PROXY TOKEN
pub naming_nothing : Agrees naming → ⊥
naming_nothing a =
    let t = (stands naming (by_x 3 0) (rw rows.0 (here refl)) a).ground in
    none_not_some (sym unknown.0 ∙ t.2)

-- without phase 4
pub absent_unit : Agrees absent → ⊥
absent_unit a = let u = (stands absent (by_t 1 3) (rw rows.1 (here refl)) a).unit in omega arith

pub malformed_lun : Agrees misformed → ⊥
malformed_lun a = let l = (stands misformed (by_t 256 0) (rw rows.2 (here refl)) a).lun in omega arith

-- without the test of the LUN's form in ASSIGN PROXY LUN
pub malformed_proxy : Agrees assigning → ⊥
malformed_proxy a =
    let t = (stands assigning (by_x 3 0) (rw rows.3 (there (here refl))) a).ground in
    none_not_some (sym unknown.1 ∙ t.2)
