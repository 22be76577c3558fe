-- The enrolments after one change: each is read back with its AccessID as it is kept, and an enrolment that was so stays so.
use Prim.Native.Nat.{ℕ, zero, suc, ◌+◌, ◌<◌}
use mathlib.Core.Path.{◌≡◌, refl, ap, sym, ◌∙◌}
use mathlib.Core.List.{List, [], map}
use mathlib.Core.Bool.{cond}
use native.Mathlib.Omega.{arith}
use lib.ListN.{length, get_or, drop, set, length-set, length-map, get_or-map}
use lib.Seq.{get_or-take, get_or-drop}
use lib.Dec.{eqb}
use Rattle.lists.specs.Lists.{parts}
use Rattle.lists.proofs.Tests.{split}
use Rattle.lists.proofs.Tables.{get_or_everywhere}
use Rattle.paper.specs.Sizes.{enrolment_size, enrolments_size}
use Rattle.paper.specs.Identifiers.{same_id, kept}
use Rattle.paper.specs.Contents.{Enrolment, not_enrolled, enrolled, pending}
use Rattle.paper.specs.Tables.{enrolment_in, enrolment_table, enrolments_of, enrolment_of, with_enrolments}
use Rattle.paper.specs.Effects.{suspended, ended_under}
use Rattle.paper.proofs.Getters.{settled, enrolments_with, length_enrolments}
use Rattle.paper.proofs.SameId.{kept_again}
use Rattle.paper.proofs.ListLaws.{set_at}
use Rattle.paper.specs.declared.state.IdType.TheVariants.{AccessId}
use Rattle.paper.specs.declared.state.Coordinator.{Coordinator}

-- ---- an enrolment as it is kept
pub settled_again : (e : Enrolment) → settled (settled e) ≡ settled e
settled_again not_enrolled = refl
settled_again (enrolled id) = ap enrolled (kept_again AccessId id)
settled_again (pending id) = ap pending (kept_again AccessId id)

pub settled_suspended : (e : Enrolment) → settled e ≡ e → settled (suspended e) ≡ suspended e
settled_suspended not_enrolled q = refl
settled_suspended (enrolled id) q = let k : kept AccessId id ≡ id = cc in ap pending k
settled_suspended (pending id) q = q

pub settled_ended : (id : List ℕ) (e : Enrolment) → settled e ≡ e → settled (ended_under id e) ≡ ended_under id e
settled_ended id not_enrolled q = refl
settled_ended id (enrolled a) q = split (same_id AccessId a AccessId id) (λ s. rw s) (λ s. rw s q)
settled_ended id (pending a) q = split (same_id AccessId a AccessId id) (λ s. rw s) (λ s. rw s q)

-- ---- the table
pub enrolment_with : (c : Coordinator) (es : List Enrolment) → length es ≡ c.initiators.count → (i : ℕ) → enrolment_of (with_enrolments c es) i ≡ settled (get_or es i not_enrolled)
enrolment_with c es e i =
    ap (λ (l : List Enrolment). get_or l i not_enrolled) (enrolments_with c es e) ∙ get_or-map settled es i not_enrolled

-- every enrolment is changed alike
pub enrolment_mapped : (c : Coordinator) (f : Enrolment → Enrolment) → f not_enrolled ≡ not_enrolled → (i : ℕ) → enrolment_of (with_enrolments c (map f (enrolments_of c))) i ≡ settled (f (enrolment_of c i))
enrolment_mapped c f e i =
    enrolment_with c (map f (enrolments_of c)) (length-map (enrolments_of c) f ∙ length_enrolments c) i
    ∙ ap settled (ap (λ (d : Enrolment). get_or (map f (enrolments_of c)) i d) (sym e) ∙ get_or-map f (enrolments_of c) i not_enrolled)

-- one initiator's is changed
pub enrolment_set : (c : Coordinator) (i : ℕ) (e : Enrolment) (j : ℕ) → i < c.initiators.count → enrolment_of (with_enrolments c (set (enrolments_of c) i e)) j ≡ settled (cond (eqb i j) e (enrolment_of c j))
enrolment_set c i e j h =
    enrolment_with c (set (enrolments_of c) i e) (length-set (enrolments_of c) i e ∙ length_enrolments c) j
    ∙ ap settled (set_at not_enrolled (enrolments_of c) i e j (omega (arith, length_enrolments c)))

-- ---- a table of zeros: nobody is enrolled
blank : (n : ℕ) (l : List ℕ) → ((j : ℕ) → get_or l j 0 ≡ 0) → (i : ℕ) → get_or (map enrolment_in (parts enrolment_size n l)) i not_enrolled ≡ not_enrolled
unfolding parts
blank zero l z i = refl
blank (suc n) l z zero = rw (get_or-take enrolment_size l 0 0 (omega arith) ∙ z 0)
blank (suc n) l z (suc i) = blank n (drop enrolment_size l) (λ j. get_or-drop enrolment_size l j 0 ∙ z (enrolment_size + j)) i

pub nobody : (n i : ℕ) → get_or (map enrolment_in (parts enrolment_size n (enrolment_table []))) i not_enrolled ≡ not_enrolled
nobody n i = blank n (enrolment_table []) (λ j. get_or_everywhere 0 enrolments_size [] j) i
