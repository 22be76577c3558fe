-- ENROLL, CANCEL ENROLLMENT and a link event keep the standing rules: they change the rows of one initiator. FLUSH keeps those that hold between effects.
use Prim.Native.Nat.{ℕ, ◌<◌}
use mathlib.Core.Path.{◌≡◌, refl, ap, sym, ◌∙◌, subst}
use mathlib.Core.List.{List, [], ◌∷◌, map}
use mathlib.Core.Bool.{true, false}
use mathlib.Core.Logic.{⊎_elim}
use native.Mathlib.Omega.{arith}
use lib.ListN.{length, get_or, set, length-set, length-map}
use lib.Seq.{get_or-set_same, get_or-set_other}
use lib.Dec.{eqb}
use borrow.Author.Tests.{eqb-true, eqb-false}
use Rattle.lists.proofs.Tests.{split}
use Rattle.lists.proofs.Members.{in_get_or}
use Rattle.paper.specs.Identifiers.{kept}
use Rattle.paper.specs.Contents.{held, Enrolment, not_enrolled, enrolled, pending}
use Rattle.paper.specs.Tables.{units_of, enrolments_of, enrolment_of, aces_of, with_enrolments}
use Rattle.paper.specs.Rows.{ace_for, content_in, rows_at, transport_rows, enrolment_rows, proxy_rows, open_rows, rows_of, clashing, clash_for}
use Rattle.paper.specs.Standing.{within_sizes, empty_while_off, standing}
use Rattle.paper.specs.Effects.{joined, flushed, left, link_event, enrolling, suspended}
use Rattle.paper.specs.Applied.{applied}
use Rattle.paper.specs.Commands.{passes, enroll_tests}
use Rattle.paper.proofs.Getters.{settled, length_enrolments}
use Rattle.paper.proofs.Stood.{stood}
use Rattle.paper.proofs.Ruled.{Ruled, ruled, stands_by, refers_to}
use Rattle.paper.proofs.FewerRows.{Fewer, fewest, more, some_all, some_none, pairs_some, clash_none, none_clash, some_rows, same_enrolment}
use Rattle.paper.proofs.ListLaws.{from_set}
use Rattle.paper.proofs.EnrolmentsAfter.{enrolment_with}
use Rattle.paper.proofs.TablesStand.{settled_refers, enrolments_by, put_enrolments}
use Rattle.paper.proofs.SameId.{ace_kept}
use Rattle.paper.proofs.Passed.{joins}
use Rattle.paper.specs.declared.state.IdType.TheVariants.{AccessId}
use Rattle.paper.specs.declared.state.Luacd.{Luacd}
use Rattle.paper.specs.declared.state.Ace.{Ace}
use Rattle.paper.specs.declared.state.Ground.TheVariants.{GroundA, GroundW}
use Rattle.paper.specs.declared.state.Coordinator.{Coordinator}

-- ---- an enrolment as it is kept has the rows that it had
settled_rows : (c : Coordinator) (i : ℕ) (e : Enrolment) → enrolment_rows c i (settled e) ≡ enrolment_rows c i e
unfolding enrolment_rows
settled_rows c i not_enrolled = refl
settled_rows c i (enrolled id) = ap (λ o. rows_at i GroundA (held (units_of c) (content_in o))) (ace_kept (aces_of c) AccessId id)
settled_rows c i (pending id) = ap (λ o. rows_at i GroundW (held (units_of c) (content_in o))) (ace_kept (aces_of c) AccessId id)

-- ---- one initiator's enrolment changes
module _ (c : Coordinator) (i : ℕ) (e : Enrolment) where
  abbrev after : Coordinator
  after = with_enrolments c (set (enrolments_of c) i e)

  as_many : length (set (enrolments_of c) i e) ≡ c.initiators.count
  as_many = length-set (enrolments_of c) i e ∙ length_enrolments c

  set_ruled : Ruled c → refers_to (aces_of c) e ≡ true → Ruled after
  set_ruled w h =
      put_enrolments c (set (enrolments_of c) i e) w as_many
      (λ x m. ⊎_elim (λ q. ap (refers_to (aces_of c)) q ∙ h) (λ k. w.enrolments x k) (from_set (enrolments_of c) i e m))

  enrolment_rows_lem : (j : ℕ) → enrolment_rows after j (enrolment_of after j) ≡ enrolment_rows c j (get_or (set (enrolments_of c) i e) j not_enrolled)
  enrolment_rows_lem j =
      let es = set (enrolments_of c) i e in
      same_enrolment c after refl refl j (enrolment_of after j)
      ∙ (ap (enrolment_rows c j) (enrolment_with c es as_many j) ∙ settled_rows c j (get_or es j not_enrolled))

  some_after : (j : ℕ) → Fewer clashing (enrolment_rows after j (enrolment_of after j)) (enrolment_rows c j (enrolment_of c j)) → Fewer clashing (rows_of after j) (rows_of c j)
  unfolding transport_rows open_rows proxy_rows
  some_after j s =
      some_rows c after j refl refl (some_all clashing (transport_rows c j)) s (some_all clashing (proxy_rows c j))

  -- the others keep their rows
  others : (j : ℕ) → eqb j i ≡ false → Fewer clashing (rows_of after j) (rows_of c j)
  others j f =
      let same = enrolment_rows_lem j ∙ ap (enrolment_rows c j) (get_or-set_other (enrolments_of c) i j e not_enrolled (eqb-false _ _ f)) in
      some_after j (rw same (some_all clashing _))

  own : i < c.initiators.count → enrolment_rows after i (enrolment_of after i) ≡ enrolment_rows c i e
  own h =
      let inside : i < length (enrolments_of c) = omega (arith, length_enrolments c) in
      enrolment_rows_lem i ∙ ap (enrolment_rows c i) (get_or-set_same (enrolments_of c) i e not_enrolled inside)

  -- and it has none that clash
  clear_stands : standing c ≡ true → refers_to (aces_of c) e ≡ true → clash_for after i ≡ false → standing after ≡ true
  unfolding within_sizes empty_while_off
  clear_stands h r clear =
      let s = stood c h in
      stands_by after (set_ruled (ruled c (stood c h)) r) s.counts
      (none_clash after (λ j k. split (eqb j i) (λ f. subst (λ n. clash_for after n ≡ false) (sym (eqb-true j i f)) clear) (λ f. pairs_some clashing (others j f) (clash_none c s.clashes j k))))
      s.off

  -- or some of those that it had
  fewer_stands : standing c ≡ true → i < c.initiators.count → refers_to (aces_of c) e ≡ true → Fewer clashing (enrolment_rows c i e) (enrolment_rows c i (enrolment_of c i)) → standing after ≡ true
  fewer_stands h k r some =
      clear_stands h r (pairs_some clashing (some_after i (rw (own k) some)) (clash_none c (stood c h).clashes i k))

-- ---- ENROLL: its tests found the ACE, and no clash
module _ (c : Coordinator) (i : ℕ) (id : List ℕ) where
  pub enroll_stands : standing c ≡ true → enroll_tests c i id ≡ passes → standing (applied c (enrolling (joined i (kept AccessId id)))) ≡ true
  unfolding applied
  enroll_stands h p =
      let j = joins c i id p in
      clear_stands c i (enrolled (kept AccessId id)) h (settled_refers (aces_of c) (enrolled id) ∙ j.listed) j.clear

-- ---- CANCEL ENROLLMENT: the A or W rows go
module _ (c : Coordinator) (i : ℕ) where
  pub cancel_stands : standing c ≡ true → i < c.initiators.count → standing (applied c (enrolling (left i))) ≡ true
  unfolding applied enrolment_rows
  cancel_stands h k = fewer_stands c i not_enrolled h k refl (some_none clashing (enrolment_rows c i (enrolment_of c i)))

-- ---- a link event: the A rows turn W
suspended_refers : (aces : List Ace) (e : Enrolment) → refers_to aces (suspended e) ≡ refers_to aces e
suspended_refers aces not_enrolled = refl
suspended_refers aces (enrolled id) = refl
suspended_refers aces (pending id) = refl

turned : (i : ℕ) (ps : List Luacd) → Fewer clashing (rows_at i GroundW ps) (rows_at i GroundA ps)
unfolding clashing
turned i [] = fewest
turned i (p ∷ ps) = more (λ s. (refl, refl)) (turned i ps)

suspended_rows : (c : Coordinator) (i : ℕ) (e : Enrolment) → Fewer clashing (enrolment_rows c i (suspended e)) (enrolment_rows c i e)
unfolding enrolment_rows
suspended_rows c i not_enrolled = fewest
suspended_rows c i (enrolled id) = turned i (held (units_of c) (content_in (ace_for (aces_of c) AccessId id)))
suspended_rows c i (pending id) = some_all clashing _

module _ (c : Coordinator) (i : ℕ) where
  refers_on : Ruled c → i < c.initiators.count → refers_to (aces_of c) (suspended (enrolment_of c i)) ≡ true
  refers_on w k =
      suspended_refers (aces_of c) (enrolment_of c i)
      ∙ w.enrolments (enrolment_of c i) (in_get_or not_enrolled (enrolments_of c) i (omega (arith, length_enrolments c)))

  pub linked_stands : standing c ≡ true → i < c.initiators.count → standing (applied c (enrolling (link_event i))) ≡ true
  unfolding applied
  linked_stands h k =
      fewer_stands c i (suspended (enrolment_of c i)) h k (refers_on (ruled c (stood c h)) k) (suspended_rows c i (enrolment_of c i))

-- ---- FLUSH: every A row turns W
pub flushed_ruled : (c : Coordinator) → Ruled c → Ruled (applied c (enrolling flushed))
unfolding applied
flushed_ruled c w =
    put_enrolments c (map suspended (enrolments_of c)) w (length-map (enrolments_of c) suspended ∙ length_enrolments c)
    (enrolments_by (aces_of c) suspended (enrolments_of c) (λ x h. suspended_refers (aces_of c) x ∙ w.enrolments x h))
