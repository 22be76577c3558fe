-- A page puts an ACE, replaces it or removes it, and the standing rules between effects stay. An enrolment finds its ACE afterwards: the one that it found, the new one in its place, or it is ended with the removal.
use Prim.Native.Nat.{ℕ}
use mathlib.Core.Path.{◌≡◌, refl, ap, sym, ◌∙◌, subst}
use mathlib.Core.List.{List, [], ◌∷◌, ◌++◌, map, append-nil}
use mathlib.Core.Bool.{Bool, true, false, cond, not, ◌&&◌}
use mathlib.Core.Bool as Bool
use lib.ListN.{length-map}
use borrow.Author.Tests.{not-true}
use Rattle.lists.specs.Lists.{◌∈◌, any, all, keep, pairs, is_some}
use Rattle.lists.proofs.Tests.{split, clashes, or_false}
use Rattle.lists.proofs.Members.{in_keep, from_keep, in_any, any_in, none_any, any_append, find_any, pairs_keep, pairs_last}
use Rattle.paper.specs.Identifiers.{same_id}
use Rattle.paper.specs.Contents.{Content, these, everything, holds_nothing, Enrolment, not_enrolled, enrolled, pending}
use Rattle.paper.specs.Tables.{ace_of, aces_of, enrolments_of, with_aces}
use Rattle.paper.specs.Rows.{is_for, ace_for}
use Rattle.paper.specs.Standing.{setup_kept, generation_right, same_ace, same_lun_or_unit, listed_in, luacd_formed, valid_id}
use Rattle.paper.specs.Effects.{granted, ended_under, ends_enrolments}
use Rattle.paper.specs.Applied.{other_ace, put_ace, after_grant, applied}
use Rattle.paper.proofs.Getters.{content_of_lem, aces_with, length_enrolments}
use Rattle.paper.proofs.SameId.{same_id_sym, same_left}
use Rattle.paper.proofs.AcesAfter.{for_put}
use Rattle.paper.proofs.ListLaws.{each_last}
use Rattle.paper.proofs.TablesStand.{enrolments_put, enrolments_by}
use Rattle.paper.proofs.Ruled.{Ruled, unit_below, AceRuled, AcesRuled, refers_to, EnrolmentsRuled}
use Rattle.paper.specs.declared.state.IdType.{IdType}
use Rattle.paper.specs.declared.state.IdType.TheVariants.{AccessId, TransportId}
use Rattle.paper.specs.declared.state.Ace.{Ace}
use Rattle.paper.specs.declared.state.Coordinator.{Coordinator}

-- ---- what a page gives: no LUN or unit twice, LUNs of the form, units that are there
pub record ContentRuled (units : ℕ) (content : Content) : Type 0 where
  pub once : pairs same_lun_or_unit (listed_in content) ≡ false
  pub formed : all luacd_formed (listed_in content) ≡ true
  pub placed : all (unit_below units) (listed_in content) ≡ true

-- ---- the new ACE
ace_ruled : (units : ℕ) (k : IdType) (id : List ℕ) (content : Content) → valid_id k id ≡ true → holds_nothing content ≡ false → ContentRuled units content → AceRuled units (ace_of k id content)
ace_ruled units k id (these ls) v n r =
    let e = content_of_lem k id (these ls) in
    record {
      once = ap (λ x. not (pairs same_lun_or_unit (listed_in x))) e ∙ rw r.once;
      filled = ap (λ x. not (holds_nothing x)) e ∙ rw n;
      formed = ap (λ x. valid_id k id && all luacd_formed (listed_in x)) e ∙ rw (v, r.formed);
      placed = ap (λ x. all (unit_below units) (listed_in x)) e ∙ r.placed;
    }
ace_ruled units k id everything v n r =
    record { once = rw r.once; filled = refl; formed = rw (v, r.formed); placed = r.placed }

-- it is the one ACE of its identifier
same_new : (a : Ace) (k : IdType) (id : List ℕ) (content : Content) → same_ace a (ace_of k id content) ≡ is_for k id a
same_new a k id (these ls) = refl
same_new a k id everything = refl

-- ---- the ACEs after a page
module _ (units : ℕ) (k : IdType) (id : List ℕ) (content : Content) (aces : List Ace) where
  put_once : pairs same_ace aces ≡ false → pairs same_ace (put_ace k id content aces) ≡ false
  unfolding put_ace
  put_once h =
      let others = keep (other_ace k id) aces in
      let left : pairs same_ace others ≡ false = pairs_keep same_ace (other_ace k id) aces h in
      split
      (holds_nothing content)
      (λ e. rw (e, append-nil) left)
      (λ e.
      rw e
      (pairs_last same_ace others (ace_of k id content)
      ∙ rw left
      (none_any (λ a. same_ace a (ace_of k id content)) others (λ a m.
      same_new a k id content ∙ not-true _ (from_keep (other_ace k id) aces m).1))))

  put_each : valid_id k id ≡ true → ContentRuled units content → ((a : Ace) → a ∈ aces → AceRuled units a) → (a : Ace) → a ∈ put_ace k id content aces → AceRuled units a
  unfolding put_ace
  put_each v r f a h =
      split
      (holds_nothing content)
      (λ e. f a (from_keep (other_ace k id) aces (rw (e, append-nil) at h)).0)
      (λ e.
      each_last (AceRuled units) (keep (other_ace k id) aces) (ace_of k id content) (λ x m. f x (from_keep (other_ace k id) aces m).0) (ace_ruled units k id content v e r) a
      (rw e at h))

  put_ruled : valid_id k id ≡ true → ContentRuled units content → AcesRuled units aces → AcesRuled units (put_ace k id content aces)
  put_ruled v r s = record { once = put_once s.once; each = put_each v r s.each }

-- ---- an AccessID that had an ACE has one, unless the page removes it
still_has : (k : IdType) (id : List ℕ) (content : Content) (aces : List Ace) (b : List ℕ) → is_some (ace_for aces AccessId b) ≡ true → (same_id AccessId b k id ≡ true → holds_nothing content ≡ false) → is_some (ace_for (put_ace k id content aces) AccessId b) ≡ true
unfolding ace_for put_ace
still_has k id content aces b s f =
    let others = keep (other_ace k id) aces in
    let new : List Ace = cond (holds_nothing content) [] (ace_of k id content ∷ []) in
    let was = in_any (is_for AccessId b) aces (sym (find_any (is_for AccessId b) aces) ∙ s) in
    let x = was.0 in
    find_any (is_for AccessId b) (others ++ new)
    ∙ any_append (is_for AccessId b) others new
    ∙ split
    (is_for k id x)
    (λ e.
    let same : same_id AccessId b k id ≡ true = same_left AccessId b x.kind x.id (same_id_sym AccessId b x.kind x.id ∙ was.2) k id ∙ e in
    rw (f same, for_put k id content AccessId b, same_id_sym k id AccessId b, same)
    (Bool.or-true (any (is_for AccessId b) others)))
    (λ e. rw (any_in (is_for AccessId b) (in_keep (other_ace k id) was.1 (rw e)) was.2))

-- ---- enrolments after a page
-- it ends those under its AccessID
ended_refers : (id : List ℕ) (content : Content) (aces : List Ace) (x : Enrolment) → refers_to aces x ≡ true → refers_to (put_ace AccessId id content aces) (ended_under id x) ≡ true
ended_refers id content aces not_enrolled h = refl
ended_refers id content aces (enrolled b) h =
    split (same_id AccessId b AccessId id) (λ e. rw e) (λ e. rw e (still_has AccessId id content aces b h (λ q. clashes q e)))
ended_refers id content aces (pending b) h =
    split (same_id AccessId b AccessId id) (λ e. rw e) (λ e. rw e (still_has AccessId id content aces b h (λ q. clashes q e)))

-- it ends none, being for a TransportID or putting an ACE
spares : (k : IdType) (id : List ℕ) (content : Content) (nocncl : Bool) (b : List ℕ) → ends_enrolments k content nocncl ≡ false → same_id AccessId b k id ≡ true → holds_nothing content ≡ false
unfolding same_id
spares AccessId id content nocncl b e q = (or_false (holds_nothing content) (not nocncl) e).0
spares TransportId id content nocncl b e q = clashes q refl

spared_refers : (k : IdType) (id : List ℕ) (content : Content) (nocncl : Bool) (aces : List Ace) (x : Enrolment) → ends_enrolments k content nocncl ≡ false → refers_to aces x ≡ true → refers_to (put_ace k id content aces) x ≡ true
spared_refers k id content nocncl aces not_enrolled e h = refl
spared_refers k id content nocncl aces (enrolled b) e h = still_has k id content aces b h (spares k id content nocncl b e)
spared_refers k id content nocncl aces (pending b) e h = still_has k id content aces b h (spares k id content nocncl b e)

-- ---- the tables after a page
grant_by : (b : Bool) (c : Coordinator) (k : IdType) (id : List ℕ) (content : Content) (nocncl : Bool) → ends_enrolments k content nocncl ≡ b → valid_id k id ≡ true → ContentRuled c.units.count content → Ruled c → Ruled (after_grant c k id content b)
unfolding setup_kept generation_right
grant_by true c AccessId id content nocncl e v s r =
    let put = put_ace AccessId id content (aces_of c) in
    let d = after_grant c AccessId id content true in
    record {
      setup = r.setup;
      generation = r.generation;
      aces = subst (AcesRuled c.units.count) (sym (aces_with c put)) (put_ruled c.units.count AccessId id content (aces_of c) v s r.aces);
      tokens = r.tokens;
      proxies = r.proxies;
      enrolments = subst
          (λ l. EnrolmentsRuled l (enrolments_of d))
          (sym (aces_with c put))
          (enrolments_put (with_aces c put) put (map (ended_under id) (enrolments_of c)) (length-map (enrolments_of c) (ended_under id) ∙ length_enrolments c) (enrolments_by put (ended_under id) (enrolments_of c) (λ x h. ended_refers id content (aces_of c) x (r.enrolments x h))));
    }
grant_by true c TransportId id content nocncl e v s r = clashes e refl
grant_by false c k id content nocncl e v s r =
    let put = put_ace k id content (aces_of c) in
    record {
      setup = r.setup;
      generation = r.generation;
      aces = subst (AcesRuled c.units.count) (sym (aces_with c put)) (put_ruled c.units.count k id content (aces_of c) v s r.aces);
      tokens = r.tokens;
      proxies = r.proxies;
      enrolments = subst
          (λ l. EnrolmentsRuled l (enrolments_of c))
          (sym (aces_with c put))
          (λ x h. spared_refers k id content nocncl (aces_of c) x e (r.enrolments x h));
    }

pub granted_ruled : (c : Coordinator) (k : IdType) (id : List ℕ) (content : Content) (nocncl : Bool) → valid_id k id ≡ true → ContentRuled c.units.count content → Ruled c → Ruled (applied c (granted k id content nocncl))
unfolding applied
granted_ruled c k id content nocncl v s r =
    grant_by (ends_enrolments k content nocncl) c k id content nocncl refl v s r
