-- The effects of a list, one after the other, make the end state, whose tables are built one at a time.
use Prim.Native.Nat.{ℕ, zero, suc, ◌/◌}
use mathlib.Core.Path.{◌≡◌, refl, ap, ap₂, sym, ◌∙◌}
use mathlib.Core.List.{List, [], ◌∷◌, ◌++◌, map}
use mathlib.Core.Bool.{Bool, true, false, cond}
use lib.ListN.{length, get_or, length-map}
use lib.Dec.{eqb, ltb, eqb-suc-zero}
use native.Mathlib.Omega.{arith}
use borrow.Author.Tests.{eqb-true, eq-eqb, ne_eqb, ltb-true, lt-ltb, le-ltb}
use Rattle.lists.specs.Lists.{any, pairs, gather}
use Rattle.lists.proofs.Tests.{split, same_test}
use Rattle.lists.proofs.Parts.{length_parts}
use Rattle.paper.specs.Sizes.{id_size}
use Rattle.paper.specs.Layouts.{descriptor_size}
use Rattle.paper.specs.Contents.{Content, these, everything, holds_nothing}
use Rattle.paper.specs.Tables.{aces_of, coordinator_of, with_switch, with_initiators, with_aces, units_of}
use Rattle.paper.specs.Effects.{Effect, switched, turned_on, keyed, enrolling, flushed, ended_under, suspended, ends_enrolments}
use Rattle.paper.specs.Applied.{put_ace, after_grant, applied, applied_all}
use Rattle.paper.specs.Pages.{new_key_in, flush_in, ace_pages, page_type, kept_id, nocncl_of, same_grant, descriptor_run, descriptors_in, overrules, not_overruled, luacd_of, page_luacds, page_effects, manage_effects}
use Rattle.paper.specs.Standing.{generation_right}
use Rattle.paper.specs.Commands.{managed}
use Rattle.paper.specs.declared.state.IdType.{IdType}
use Rattle.paper.specs.declared.state.IdType.TheVariants.{AccessId, TransportId}
use Rattle.paper.specs.declared.state.Descriptor.{Descriptor}
use Rattle.paper.specs.declared.state.Coordinator.{Coordinator}
use Rattle.manage.specs.EndState.{in_order, enrolled_by, removes, ends_as, ends_under, initiators_by, initiators_after, live_by, live_after, live_of, granted_with, revoked_by, end_state}
use Rattle.manage.proofs.Grants.{acl_by, acl_pages}

pub applied_append : (c : Coordinator) (es fs : List Effect) → applied_all c (es ++ fs) ≡ applied_all (applied_all c es) fs
unfolding applied_all
applied_append c [] fs = refl
applied_append c (e ∷ es) fs = applied_append (applied c e) es fs

-- ---- a page 00h removes exactly if it has no descriptor: the last one always stands
pub length_descriptors : (run : List ℕ) → length (descriptors_in run) ≡ length run / 20
unfolding descriptors_in
length_descriptors run = simp (length-map, length_parts)

nothing_stands : (luns : List ℕ) (ds : List Descriptor) → holds_nothing (these (map (luacd_of luns) (not_overruled ds))) ≡ eqb (length ds) 0
unfolding not_overruled
nothing_stands luns [] = refl
nothing_stands luns (d ∷ []) = refl
nothing_stands luns (d ∷ (x ∷ xs)) =
    split (any (overrules d) (x ∷ xs))
    (λ e. rw e (nothing_stands luns (x ∷ xs) ∙ eqb-suc-zero (length xs) ∙ sym (eqb-suc-zero (suc (length xs)))))
    (λ e. rw (e, eqb-suc-zero))

no_luacds : (luns page : List ℕ) → holds_nothing (these (page_luacds luns page)) ≡ ltb (length (descriptor_run id_size page)) descriptor_size
unfolding page_luacds
no_luacds luns page =
    let run = descriptor_run id_size page in
    nothing_stands luns (descriptors_in run)
    ∙ rw (length_descriptors run)
    (same_test
    (λ e. lt-ltb (length run) 20 (omega (arith, eqb-true (length run / 20) 0 e)))
    (λ e. eq-eqb (length run / 20) 0 (omega (arith, ltb-true (length run) 20 e))))

ends_as_lem : (k : IdType) (content : Content) (nocncl : Bool) → ends_enrolments k content nocncl ≡ ends_as k (holds_nothing content) nocncl
ends_as_lem AccessId content nocncl = refl
ends_as_lem TransportId content nocncl = refl

-- ---- one page
module _ (luns : List ℕ) where
  abbrev page_state : List ℕ → Coordinator → Coordinator
  page_state page c =
      coordinator_of c.enabled c.generation c.key (initiators_by page c.initiators) c.units (acl_by luns page c.acl)
      (live_by page (live_of c)).tokens (live_by page (live_of c)).proxies

  -- an ACE is put, and where the page ends enrolments they go
  abbrev granting : Coordinator → IdType → List ℕ → Content → Bool → Coordinator
  granting c k id content b =
      coordinator_of c.enabled c.generation c.key (cond b (enrolled_by (ended_under id) c.initiators) c.initiators) c.units (with_aces c (put_ace k id content (aces_of c))).acl c.tokens c.proxies

  grant_applied : (c : Coordinator) (k : IdType) (id : List ℕ) (content : Content) (b : Bool) → after_grant c k id content b ≡ granting c k id content b
  grant_applied c k id content true = refl
  grant_applied c k id content false = refl

  page_applied : (page : List ℕ) (c : Coordinator) → applied_all c (page_effects luns page) ≡ page_state page c
  unfolding applied_all applied page_effects initiators_by ends_under removes acl_by live_by
  page_applied page c = go (get_or page 0 0) refl
    where
      gives : (content : Content) (gone : Bool) → holds_nothing content ≡ gone → after_grant c (page_type page) (kept_id page) content (ends_enrolments (page_type page) content (nocncl_of page)) ≡ granting c (page_type page) (kept_id page) content (ends_as (page_type page) gone (nocncl_of page))
      gives content gone q =
          ap (after_grant c (page_type page) (kept_id page) content) (ends_as_lem (page_type page) content (nocncl_of page) ∙ ap (λ g. ends_as (page_type page) g (nocncl_of page)) q)
          ∙ grant_applied c (page_type page) (kept_id page) content (ends_as (page_type page) gone (nocncl_of page))

      go : (n : ℕ) → get_or page 0 0 ≡ n → applied_all c (page_effects luns page) ≡ page_state page c
      go zero e = rw e (gives (these (page_luacds luns page)) _ (no_luacds luns page))
      go (suc zero) e = rw e (gives everything false refl)
      go (suc (suc zero)) e = rw e
      go (suc (suc (suc zero))) e = rw e
      go (suc (suc (suc (suc n)))) e =
          let m = suc (suc (suc (suc n))) in
          rw (e, ne_eqb m 0 (λ q. omega arith), ne_eqb m 1 (λ q. omega arith), ne_eqb m 2 (λ q. omega arith), ne_eqb m 3 (λ q. omega arith), le-ltb m 2 (omega arith))

  -- ---- the pages, in order
  pages_applied : (pages : List (List ℕ)) (c : Coordinator) → applied_all c (gather (page_effects luns) pages) ≡ coordinator_of c.enabled c.generation c.key (in_order initiators_by pages c.initiators) c.units (in_order (acl_by luns) pages c.acl) (in_order live_by pages (live_of c)).tokens (in_order live_by pages (live_of c)).proxies
  unfolding in_order applied_all
  pages_applied [] c = refl
  pages_applied (page ∷ pages) c =
      applied_append c (page_effects luns page) (gather (page_effects luns) pages)
      ∙ ap (λ d. applied_all d (gather (page_effects luns) pages)) (page_applied page c)
      ∙ pages_applied pages (page_state page c)

-- ---- before the pages: "The new key is then taken, access controls are on, FLUSH turns every enrolled initiator pending"
-- while they are on, DLgeneration is 1 already
on_applied : (c : Coordinator) (key : ℕ) → generation_right c ≡ true → applied_all c (keyed key ∷ cond c.enabled [] (switched turned_on ∷ [])) ≡ with_switch c true 1 key
unfolding applied_all applied generation_right
on_applied c key h = go c.enabled refl
  where
    go : (b : Bool) → c.enabled ≡ b → applied_all c (keyed key ∷ cond c.enabled [] (switched turned_on ∷ [])) ≡ with_switch c true 1 key
    go true e =
        ap (λ b. applied_all c (keyed key ∷ cond b [] (switched turned_on ∷ []))) e
        ∙ ap₂ (λ b g. with_switch c b g key) e (eqb-true _ _ h ∙ ap (λ b. cond b 1 0) e)
    go false e = ap (λ b. applied_all c (keyed key ∷ cond b [] (switched turned_on ∷ []))) e

flush_applied : (c : Coordinator) (b : Bool) → applied_all c (cond b (enrolling flushed ∷ []) []) ≡ with_initiators c (cond b (enrolled_by suspended c.initiators) c.initiators)
unfolding applied_all applied
flush_applied c true = refl
flush_applied c false = refl

-- ---- all of it
pub end_state_lem : (c : Coordinator) (list : List ℕ) → generation_right c ≡ true → pairs same_grant (ace_pages list) ≡ false → managed c list ≡ end_state c list
unfolding manage_effects granted_with revoked_by initiators_after live_after
end_state_lem c list g h =
    let luns = units_of c in
    let pages = gather (page_effects luns) (ace_pages list) in
    let flush = cond (flush_in list) (enrolling flushed ∷ []) [] in
    let on = with_switch c true 1 (new_key_in list) in
    let begun = with_initiators on (cond (flush_in list) (enrolled_by suspended c.initiators) c.initiators) in
    applied_append c (keyed (new_key_in list) ∷ cond c.enabled [] (switched turned_on ∷ [])) (flush ++ pages)
    ∙ ap (λ d. applied_all d (flush ++ pages)) (on_applied c (new_key_in list) g)
    ∙ applied_append on flush pages
    ∙ ap (λ d. applied_all d pages) (flush_applied on (flush_in list))
    ∙ pages_applied luns (ace_pages list) begun
    ∙ rw (acl_pages luns (ace_pages list) c.acl h)
