-- MANAGE ACL keeps the standing rules. Each of its effects keeps those that hold between effects; phases 5 and 6 test the end state for the sizes of the ACL and for clashes; the other tables only shrink.
use Prim.Native.Nat.{ℕ, ◌≤◌}
use mathlib.Core.Path.{◌≡◌, refl, ap, sym, ◌∙◌, subst}
use mathlib.Core.List.{List, [], ◌∷◌, ◌++◌}
use mathlib.Core.Bool.{Bool, true, false, cond, not}
use mathlib.Core.Logic.{⊎_elim}
use native.Mathlib.Omega.{arith}
use native.Mathlib.Nat.{le_refl}
use lib.ListN.{length, length-take}
use lib.Dec.{eqb, ltb}
use borrow.Author.Tests.{le-leb, ltb-false}
use Rattle.lists.specs.Lists.{◌∈◌, here, there, any, gather}
use Rattle.lists.proofs.Tests.{split, clashes, or_false}
use Rattle.lists.proofs.Members.{in_cons, in_append, from_gather, any_none, in_all, length_keep}
use Rattle.paper.specs.Sizes.{max_aces}
use Rattle.paper.specs.Contents.{Content}
use Rattle.paper.specs.Tables.{units_of, aces_of, tokens_of, proxies_of}
use Rattle.paper.specs.Standing.{within_sizes, few_luacds, no_clash, empty_while_off, valid_id, standing}
use Rattle.paper.specs.Effects.{turned_on, flushed, Ending, ended, Effect, switched, keyed, granted, enrolling, tokening, ends_enrolments, outlives}
use Rattle.paper.specs.Applied.{kept_by, after_grant, applied, applied_all}
use Rattle.paper.specs.Pages.{new_key_in, flush_in, ace_pages, page_code, bad_page, bad_list_page, bad_all_page, bad_identifier, bad_list_length, page_length, bad_places, page_effects, manage_effects}
use Rattle.paper.specs.Commands.{passes, many_luacds, too_many, manage_tests}
use Rattle.paper.proofs.Stood.{stood, counted}
use Rattle.paper.proofs.Ruled.{Ruled, ruled, stands_by}
use Rattle.paper.proofs.UnitsStay.{units_stay, units_kept}
use Rattle.paper.proofs.Counts.{within, tokens_counted, proxies_counted}
use Rattle.paper.proofs.Passed.{manages}
use Rattle.paper.proofs.EndingStands.{ended_ruled}
use Rattle.paper.proofs.SwitchStands.{keyed_ruled, on_ruled}
use Rattle.paper.proofs.EnrolmentsStand.{flushed_ruled}
use Rattle.paper.proofs.GrantStands.{ContentRuled, granted_ruled}
use Rattle.paper.proofs.PageGrants.{page_valid, everything_ruled, page_content}
use Rattle.paper.specs.declared.state.IdType.{IdType}
use Rattle.paper.specs.declared.state.Coordinator.{Coordinator}

-- ---- the effects of a list, where there are so many units
data Managing (units : ℕ) : Effect → Type 0 where
  key : {n : ℕ} → Managing units (keyed n)
  on : Managing units (switched turned_on)
  flush : Managing units (enrolling flushed)
  grant : {k : IdType} {id : List ℕ} {content : Content} {nocncl : Bool} → valid_id k id ≡ true → ContentRuled units content → Managing units (granted k id content nocncl)
  end : {e : Ending} → Managing units (tokening (ended e))

managing_ruled : (c : Coordinator) {e : Effect} → Managing c.units.count e → Ruled c → Ruled (applied c e)
managing_ruled c (key {n}) w = keyed_ruled c n w
managing_ruled c on w = on_ruled c w
managing_ruled c flush w = flushed_ruled c w
managing_ruled c (grant {k} {id} {content} {nocncl} v s) w = granted_ruled c k id content nocncl v s w
managing_ruled c (end {e}) w = ended_ruled c e w

-- ---- what they leave alone: how many initiators there are, and that access controls are on; tokens and proxy LUNs are no more than before
record Follows (c d : Coordinator) : Type 0 where
  initiators : d.initiators.count ≡ c.initiators.count
  tokens : d.tokens.count ≤ c.tokens.count
  proxies : d.proxies.count ≤ c.proxies.count
  stays_on : c.enabled ≡ true → d.enabled ≡ true

follows_none : (c : Coordinator) → Follows c c
follows_none c =
    record { initiators = refl; tokens = le_refl _; proxies = le_refl _; stays_on = λ e. e }

follows_both : {a b c : Coordinator} → Follows a b → Follows b c → Follows a c
follows_both f g =
    record {
      initiators = g.initiators ∙ f.initiators;
      tokens = omega (arith, f.tokens, g.tokens);
      proxies = omega (arith, f.proxies, g.proxies);
      stays_on = λ e. g.stays_on (f.stays_on e);
    }

follows_grant : (b : Bool) (c : Coordinator) (k : IdType) (id : List ℕ) (content : Content) → Follows c (after_grant c k id content b)
follows_grant true c k id content =
    record { initiators = refl; tokens = le_refl _; proxies = le_refl _; stays_on = λ e. e }
follows_grant false c k id content =
    record { initiators = refl; tokens = le_refl _; proxies = le_refl _; stays_on = λ e. e }

follows_one : (c : Coordinator) {e : Effect} → Managing c.units.count e → Follows c (applied c e)
unfolding applied
follows_one c key = record { initiators = refl; tokens = le_refl _; proxies = le_refl _; stays_on = λ e. e }
follows_one c on = record { initiators = refl; tokens = le_refl _; proxies = le_refl _; stays_on = λ e. refl }
follows_one c flush = record { initiators = refl; tokens = le_refl _; proxies = le_refl _; stays_on = λ e. e }
follows_one c (grant {k} {id} {content} {nocncl} v s) = follows_grant (ends_enrolments k content nocncl) c k id content
follows_one c (end {e}) =
    record {
      initiators = refl;
      tokens = omega (arith, length_keep (outlives e) (tokens_of c), tokens_counted c);
      proxies = omega (arith, length_keep (kept_by e (tokens_of c)) (proxies_of c), proxies_counted c);
      stays_on = λ q. q;
    }

-- ---- one after the other
run_follows : (units : ℕ) (es : List Effect) (c : Coordinator) → c.units.count ≡ units → ((e : Effect) → e ∈ es → Managing units e) → Follows c (applied_all c es)
unfolding applied_all
run_follows units [] c u m = follows_none c
run_follows units (e ∷ es) c u m =
    let f = follows_one c (subst (λ n. Managing n e) (sym u) (m e (here refl))) in
    follows_both f (run_follows units es (applied c e) (ap (λ t. t.count) (units_stay c e) ∙ u) (λ x h. m x (there h)))

run_ruled : (units : ℕ) (es : List Effect) (c : Coordinator) → c.units.count ≡ units → ((e : Effect) → e ∈ es → Managing units e) → Ruled c → Ruled (applied_all c es)
unfolding applied_all
run_ruled units [] c u m w = w
run_ruled units (e ∷ es) c u m w =
    let now = subst (λ n. Managing n e) (sym u) (m e (here refl)) in
    run_ruled units es (applied c e) (ap (λ t. t.count) (units_stay c e) ∙ u) (λ x h. m x (there h)) (managing_ruled c now w)

-- ---- the effects of a page that phases 3 and 4 let pass
only_one : (units : ℕ) {x e : Effect} → Managing units e → x ∈ (e ∷ []) → Managing units x
only_one units m h = ⊎_elim (λ q. subst (Managing units) (sym q) m) (λ q. elim q [ ]) (in_cons h)

page_managing : (units : ℕ) (luns page : List ℕ) → length luns ≤ units → bad_page page ≡ false → bad_places luns page ≡ false → (x : Effect) → x ∈ page_effects luns page → Managing units x
unfolding bad_page bad_places page_effects bad_list_page bad_all_page
page_managing units luns page fit bad places x h =
    split
    (eqb (page_code page) 0x00)
    (λ e.
    let id = (or_false (bad_list_length 24 (page_length page)) _ (rw e at bad)).1 in
    only_one units (grant (page_valid page (or_false (bad_identifier page) _ id).0) (page_content units luns page fit (rw e at places))) (rw e at h))
    (λ e.
    split
    (eqb (page_code page) 0x01)
    (λ f.
    let id = (or_false (not (eqb (page_length page) 28)) _ (rw (e, f) at bad)).1 in
    only_one units (grant (page_valid page id) (everything_ruled units)) (rw (e, f) at h))
    (λ f.
    split
    (eqb (page_code page) 0x02)
    (λ g. only_one units end (rw (e, f, g) at h))
    (λ g. split (eqb (page_code page) 0x03) (λ i. only_one units end (rw (e, f, g, i) at h)) (λ i. clashes refl (rw (e, f, g, i) at bad)))))

-- ---- the effects of a list
effects_managing : (units : ℕ) (luns : List ℕ) (b : Bool) (list : List ℕ) → length luns ≤ units → any bad_page (ace_pages list) ≡ false → any (bad_places luns) (ace_pages list) ≡ false → (x : Effect) → x ∈ manage_effects luns b list → Managing units x
unfolding manage_effects
effects_managing units luns b list fit bad places x h =
    ⊎_elim
    (λ m. ⊎_elim (λ q. subst (Managing units) (sym q) key) (λ q. turning b q) (in_cons m))
    (λ m. ⊎_elim (λ q. flushing (flush_in list) q) paging (in_append (cond (flush_in list) (enrolling flushed ∷ []) []) m))
    (in_append (keyed (new_key_in list) ∷ cond b [] (switched turned_on ∷ [])) h)
  where
    turning : (b : Bool) → x ∈ cond b [] (switched turned_on ∷ []) → Managing units x
    turning true q = elim q [ ]
    turning false q = only_one units on q

    flushing : (b : Bool) → x ∈ cond b (enrolling flushed ∷ []) [] → Managing units x
    flushing true q = only_one units flush q
    flushing false q = elim q [ ]

    paging : x ∈ gather (page_effects luns) (ace_pages list) → Managing units x
    paging q =
        let r = from_gather (page_effects luns) (ace_pages list) q in
        page_managing units luns r.0 fit (any_none bad_page bad r.1) (any_none (bad_places luns) places r.1) x r.2

-- access controls are on at the end: they were, or were turned on
ends_on : (b : Bool) (units : ℕ) (luns list : List ℕ) (c : Coordinator) → c.enabled ≡ b → c.units.count ≡ units → ((x : Effect) → x ∈ manage_effects luns b list → Managing units x) → (applied_all c (manage_effects luns b list)).enabled ≡ true
unfolding manage_effects applied_all applied
ends_on true units luns list c e u m = (run_follows units (manage_effects luns true list) c u m).stays_on e
ends_on false units luns list c e u m =
    let begun = applied (applied c (keyed (new_key_in list))) (switched turned_on) in
    let rest = cond (flush_in list) (enrolling flushed ∷ []) [] ++ gather (page_effects luns) (ace_pages list) in
    (run_follows units rest begun u (λ x h. m x (there (there h)))).stays_on refl

-- ---- phase 5: the ACL is within its sizes
sizes_by : (c d : Coordinator) → within_sizes c ≡ true → d.units ≡ c.units → Follows c d → too_many d ≡ false → within_sizes d ≡ true
unfolding too_many
sizes_by c d h u f t =
    let n = counted c h in
    let r = or_false (ltb max_aces d.acl.count) _ t in
    within d (record {
      few_initiators = omega (arith, n.few_initiators, f.initiators);
      few_units = omega (arith, n.few_units, ap (λ u. u.count) u);
      few_aces = omega (arith, ltb-false 32 d.acl.count r.0);
      luacds_few = in_all few_luacds (aces_of d) (λ a m. le-leb a.count 16 (omega (arith, ltb-false 16 a.count (any_none many_luacds r.1 m))));
      few_tokens = omega (arith, n.few_tokens, f.tokens);
      few_proxies = omega (arith, n.few_proxies, f.proxies);
    })

-- ---- all of it
pub manage_stands : (c : Coordinator) (list : List ℕ) → standing c ≡ true → manage_tests c list ≡ passes → standing (applied_all c (manage_effects (units_of c) c.enabled list)) ≡ true
unfolding no_clash empty_while_off
manage_stands c list h p =
    let t = manages c list p in
    let units = c.units.count in
    let fit : length (units_of c) ≤ units = omega (arith, length-take c.units.count c.units.luns) in
    let es = manage_effects (units_of c) c.enabled list in
    let each = effects_managing units (units_of c) c.enabled list fit t.pages t.places in
    let d = applied_all c es in
    let f = run_follows units es c refl each in
    stands_by d (run_ruled units es c refl each (ruled c (stood c h))) (sizes_by c d (stood c h).counts (units_kept c es) f t.room) (rw t.apart) (rw (ends_on c.enabled units (units_of c) list c refl refl each))
