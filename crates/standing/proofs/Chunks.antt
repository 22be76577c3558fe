-- The parts of the bytes that hold one for each initiator, as arrays of bytes.
use Rattle.std.proofs.Common.{ℕ, Bool, zero, suc, ◌≡◌, ◌/◌, ◌≤◌, List, length, take, drop, refl, sym}
use mathlib.Core.Path.{◌∙◌}
use Rattle.std.specs.Simd.{first_chunks}
use Rattle.lists.specs.Lists.{all, parts}
use Rattle.lists.proofs.Members.{all_map}
use Rattle.lists.proofs.Checks.{parts_take, parts_capped}
use Rattle.paper.specs.Tables.{enrolments_of, enrolment_in}
use Rattle.paper.specs.Standing.{enrolment_refers}
use Rattle.paper.specs.declared.state.Coordinator.{Coordinator}
use Rattle.paper.specs.declared.state.Initiators.{Initiators}

pub chunks_parts : {A : Type 0} (size n : ℕ) (l : List A) → first_chunks size n l ≡ parts size n l
unfolding parts
chunks_parts size zero l = refl
chunks_parts size (suc n) l = rw (chunks_parts size n (drop size l))

-- the parts of a table that has 16
pub transports_lem : (t : Initiators) → length t.ids ≡ 384 → t.count ≤ 16 → take t.count (parts 24 (length t.ids / 24) t.ids) ≡ parts 24 t.count t.ids
transports_lem t h k = rw h (sym (parts_take 24 t.count 16 t.ids k))

-- an enrolment refers to an ACE of its AccessID, read from its bytes
abbrev pub refers : Coordinator → List ℕ → Bool
refers c e = enrolment_refers c (enrolment_in e)

-- those past the table's end are not enrolled
pub enrolments_lem : (c : Coordinator) → length c.initiators.enrolments ≡ 400 → all (enrolment_refers c) (enrolments_of c) ≡ all (refers c) (take c.initiators.count (parts 25 (length c.initiators.enrolments / 25) c.initiators.enrolments))
enrolments_lem c h =
    let bytes = c.initiators.enrolments in
    rw h (all_map enrolment_in (enrolment_refers c) (parts 25 c.initiators.count bytes) ∙ parts_capped (refers c) refl 25 c.initiators.count 16 bytes h)
