-- The rows of an initiator by the switch of access controls, and its enrolment by its part of the bytes.
use Prim.Native.Nat.{ℕ, ◌*◌, ◌<◌}
use mathlib.Core.Path.{◌≡◌, ap, ◌∙◌}
use mathlib.Core.List.{[], ◌++◌}
use mathlib.Core.Bool.{Bool, cond}
use lib.ListN.{take, drop, get_or-map}
use Rattle.lists.specs.Lists.{parts}
use Rattle.lists.proofs.Parts.{get_or_parts}
use Rattle.paper.specs.Tables.{enrolment_in, enrolment_of}
use Rattle.paper.specs.Rows.{transport_rows, enrolment_rows, proxy_rows, open_rows, rows_of}
use Rattle.paper.specs.declared.state.Coordinator.{Coordinator}

pub rows_by : (c : Coordinator) (i : ℕ) {on : Bool} → c.enabled ≡ on → rows_of c i ≡ cond on (transport_rows c i ++ (enrolment_rows c i (enrolment_of c i) ++ proxy_rows c i)) (open_rows c i)
unfolding rows_of
rows_by c i e = ap (λ on. cond on (transport_rows c i ++ (enrolment_rows c i (enrolment_of c i) ++ proxy_rows c i)) (open_rows c i)) e

-- the enrolment of an initiator is what its part holds
pub enrolment_is : (c : Coordinator) (i : ℕ) → i < c.initiators.count → enrolment_of c i ≡ enrolment_in (take 25 (drop (25 * i) c.initiators.enrolments))
enrolment_is c i h =
    let n = c.initiators.count in
    let bytes = c.initiators.enrolments in
    get_or-map enrolment_in (parts 25 n bytes) i [] ∙ ap enrolment_in (get_or_parts 25 n bytes i [] h)
