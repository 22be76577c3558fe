-- Enrolments read from their bytes, one at a time, and what a change makes of each.
use Rattle.std.proofs.lemmas.List.Edits.{sets-eq}
use Prim.Native.Nat.{ℕ, ◌+◌, ◌*◌, ◌≤◌, ◌<◌}
use mathlib.Core.Path.{◌≡◌, ap, sym, ◌∙◌}
use mathlib.Core.List.{List, [], ◌++◌, map, append_assoc}
use mathlib.Core.Bool.{cond}
use native.Mathlib.Omega.{arith}
use native.Mathlib.Numerals.{add-one}
use lib.ListN.{length, get_or, set, take, drop, replicate, length-map, length-set, drop_of_length-le, get_or-map}
use lib.Seq.{sets, drop-cons, drop-drop, get_or-set_same, get_or-set_other}
use lib.Dec.{eqb}
use borrow.Author.Tests.{eq-eqb, eqb-true}
use Rattle.lists.specs.Lists.{parts, gather}
use Rattle.lists.proofs.Tests.{split, clashes}
use Rattle.lists.proofs.Parts.{get_or_parts, length_parts, length_gather}
use Rattle.lists.proofs.Tables.{Grown, grown_none, grown_run, grown_end, length_pad}
use Rattle.paper.proofs.Getters.{length_enrolment}
use Rattle.paper.specs.Contents.{Enrolment, not_enrolled, enrolled}
use Rattle.paper.specs.Tables.{enrolment_in, enrolment_bytes, enrolment_table}
use Rattle.paper.specs.Effects.{suspended, ended_under}
use Rattle.tables.specs.Changes.{changed, changed_at}
use Rattle.tables.specs.declared.enrolments.Change.{Change}
use Rattle.tables.specs.declared.enrolments.Change.TheVariants.{Joined, Left, LinkEvent, Flushed, EndedUnder}

-- ---- the enrolments that the bytes hold, and one of them
abbrev pub enrolments_in : ℕ → List ℕ → List Enrolment
enrolments_in n bytes = map enrolment_in (parts 25 n bytes)

pub enrolment_at_lem : (n : ℕ) (bytes : List ℕ) (i : ℕ) → i < n → get_or (enrolments_in n bytes) i not_enrolled ≡ enrolment_in (take 25 (drop (25 * i) bytes))
enrolment_at_lem n bytes i h = get_or-map enrolment_in (parts 25 n bytes) i [] ∙ ap enrolment_in (get_or_parts 25 n bytes i [] h)

-- ---- what a change makes of the enrolment at a place
pub changed_length : (change : Change) (id : List ℕ) (es : List Enrolment) → length (changed change id es) ≡ length es
changed_length (Joined j) id es = length-set es j (enrolled id)
changed_length (Left j) id es = length-set es j not_enrolled
changed_length (LinkEvent j) id es = length-set es j (suspended (get_or es j not_enrolled))
changed_length Flushed id es = simp length-map
changed_length EndedUnder id es = simp length-map

set_at : (es : List Enrolment) (i j : ℕ) (f : Enrolment → Enrolment) → i < length es → get_or (set es j (f (get_or es j not_enrolled))) i not_enrolled ≡ cond (eqb i j) (f (get_or es i not_enrolled)) (get_or es i not_enrolled)
set_at es i j f h =
    split (eqb i j)
    (λ t. rw (t, ← eqb-true i j t) (get_or-set_same es i (f (get_or es i not_enrolled)) not_enrolled h))
    (λ t. rw t (get_or-set_other es j i (f (get_or es j not_enrolled)) not_enrolled (λ e. clashes (eq-eqb i j e) t)))

pub changed_at_lem : (change : Change) (id : List ℕ) (es : List Enrolment) (i : ℕ) → i < length es → get_or (changed change id es) i not_enrolled ≡ changed_at change id i (get_or es i not_enrolled)
changed_at_lem (Joined j) id es i h = set_at es i j (λ e. enrolled id) h
changed_at_lem (Left j) id es i h = set_at es i j (λ e. not_enrolled) h
changed_at_lem (LinkEvent j) id es i h = set_at es i j suspended h
changed_at_lem Flushed id es i h = get_or-map suspended es i not_enrolled
changed_at_lem EndedUnder id es i h = get_or-map (ended_under id) es i not_enrolled

-- ---- the loop that rebuilds the enrolments: what it has written and what is left are together the enrolments after the change
module _ (change : Change) (id from : List ℕ) (count : ℕ) where
  abbrev pub after : List Enrolment
  after = changed change id (enrolments_in count from)

  pub length_after : length after ≡ count
  length_after = changed_length change id (enrolments_in count from) ∙ simp (length-map, length_parts)

  pub record Enrolling (i : ℕ) (out : List ℕ) : Type 0 where
    pub few : count ≤ 16
    pub passed : i ≤ count
    pub grown : Grown 0 400 (gather enrolment_bytes after) (gather enrolment_bytes (drop i after)) out (25 * i)

  pub enrol_none : count ≤ 16 → Enrolling 0 (replicate 400 0)
  enrol_none k =
      record {
        few = k;
        passed = omega arith;
        grown = grown_none 0 400 (gather enrolment_bytes after) (omega (arith, length_gather enrolment_bytes 25 after (λ x m. length_enrolment x), length_after));
      }

  -- one more is read, changed and written
  pub enrol_more : {i : ℕ} {old : Enrolment} {new out : List ℕ} → Enrolling i out → i < count → old ≡ enrolment_in (take 25 (drop (25 * i) from)) → new ≡ enrolment_bytes (changed_at change id i old) → Enrolling (i + 1) (take (25 * i) out ++ (new ++ drop 25 (drop (25 * i) out)))
  enrol_more {i} {old} {new} {out} s h q f =
      let was = get_or (enrolments_in count from) i not_enrolled in
      let is = get_or after i not_enrolled in
      let read : old ≡ was = q ∙ sym (enrolment_at_lem count from i h) in
      let turned : changed_at change id i was ≡ is = sym (changed_at_lem change id (enrolments_in count from) i (simp (length-map, length_parts) h)) in
      let held : new ≡ enrolment_bytes is = f ∙ rw (read, turned) in
      let next : gather enrolment_bytes (drop i after) ≡ enrolment_bytes is ++ gather enrolment_bytes (drop (i + 1) after) = rw (drop-cons after i not_enrolled (omega (arith, length_after)), add-one i) in
      let size : 25 * (i + 1) ≡ 25 * i + length (enrolment_bytes is) = omega (arith, length_enrolment is) in
      let g = s.grown.built in
      let long : length out ≡ 400 = ap length g.items_are ∙ length_pad 0 400 s.grown.sofar (omega (arith, g.kept_is)) in
      let one : length (enrolment_bytes is) ≡ 25 = length_enrolment is in
      let put : sets out (25 * i) (enrolment_bytes is) ≡ take (25 * i) out ++ (enrolment_bytes is ++ drop 25 (drop (25 * i) out)) = sets-eq (enrolment_bytes is) out (25 * i) (omega arith) ∙ rw (one, drop-drop, append_assoc) in
      record {
        few = s.few;
        passed = omega arith;
        grown = rw (held, ← put, size) (grown_run (enrolment_bytes is) s.grown next);
      }

  pub enrol_end : {i : ℕ} {out : List ℕ} → Enrolling i out → count ≤ i → out ≡ enrolment_table after
  enrol_end {i} s h = (grown_end s.grown (rw (drop_of_length-le after {i = i} (omega (arith, length_after))))).items_are
