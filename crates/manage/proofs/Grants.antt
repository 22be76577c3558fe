-- Pages put their ACEs one after the other. No two grant pages of a list name one identifier, so that this is the same as to take out first all ACEs that are named, and to add the new ones then.
use Prim.Native.Nat.{ℕ}
use mathlib.Core.Path.{◌≡◌, refl, ap, ap₂, sym, ◌∙◌}
use mathlib.Core.List.{List, [], ◌∷◌, ◌++◌, append_assoc, append-nil}
use mathlib.Core.Bool.{Bool, true, false, cond, not, ◌&&◌, ◌||◌}
use lib.ListN.{take}
use Rattle.lists.specs.Lists.{any, keep, pairs, gather}
use Rattle.lists.proofs.Tests.{split, or_false}
use Rattle.lists.proofs.Tables.{take_pad}
use Rattle.lists.proofs.Members.{any_same, keep_append, keep_same, keep_keep}
use Rattle.paper.specs.Sizes.{max_aces, id_size}
use Rattle.paper.specs.Identifiers.{same_id}
use Rattle.paper.specs.Contents.{Content, these, everything, holds_nothing}
use Rattle.paper.specs.Tables.{no_ace, ace_of, acl_of}
use Rattle.paper.specs.Applied.{other_ace, put_ace}
use Rattle.paper.specs.Pages.{page_type, page_id, kept_id, is_grant, same_grant}
use Rattle.paper.proofs.SameId.{same_kept, kept_same}
use Rattle.paper.specs.declared.state.IdType.{IdType}
use Rattle.paper.specs.declared.state.Ace.{Ace}
use Rattle.paper.specs.Tables.{Acl}
use Rattle.manage.specs.EndState.{in_order, grant_of, names_id, unnamed, new_aces, aces_after, acl_after}

neither : (a b : Bool) → not a && not b ≡ not (a || b)
neither true b = refl
neither false b = refl

-- ---- one page and those after it
module _ (page : List ℕ) (pages : List (List ℕ)) where
  -- a page that names nothing
  unnamed_other : is_grant page ≡ false → (aces : List Ace) → keep (unnamed (page ∷ pages)) aces ≡ keep (unnamed pages) aces
  unfolding names_id
  unnamed_other e aces = keep_same (unnamed (page ∷ pages)) (unnamed pages) aces (λ a h. rw e)

  -- an ACE is left when neither this page nor a later one names it
  unnamed_both : is_grant page ≡ true → (aces : List Ace) → keep (unnamed pages) (keep (other_ace (page_type page) (kept_id page)) aces) ≡ keep (unnamed (page ∷ pages)) aces
  unfolding names_id
  unnamed_both e aces =
      keep_keep (unnamed pages) (other_ace (page_type page) (kept_id page)) aces
      ∙ keep_same
      (λ a. other_ace (page_type page) (kept_id page) a && unnamed pages a)
      (unnamed (page ∷ pages))
      aces
      (λ a h.
      rw (e, same_kept a.kind a.id (page_type page) (page_id id_size page))
      (neither (same_id a.kind a.id (page_type page) (page_id id_size page)) (any (names_id a.kind a.id) pages)))

  -- no later page names the identifier of this one
  none_names : is_grant page ≡ true → any (same_grant page) pages ≡ false → any (names_id (page_type page) (kept_id page)) pages ≡ false
  unfolding names_id same_grant
  none_names e h =
      any_same
      (names_id (page_type page) (kept_id page))
      (same_grant page)
      pages
      (λ q i. rw (e, kept_same (page_type page) (page_id id_size page) (page_type q) (page_id id_size q)))
      ∙ h

-- what is put for an identifier that no later page names stays
put_stays : (k : IdType) (id : List ℕ) (content : Content) (pages : List (List ℕ)) → any (names_id k id) pages ≡ false → keep (unnamed pages) (cond (holds_nothing content) [] (ace_of k id content ∷ [])) ≡ cond (holds_nothing content) [] (ace_of k id content ∷ [])
put_stays k id (these []) pages h = refl
put_stays k id (these (l ∷ ls)) pages h = rw h
put_stays k id everything pages h = rw h

turned : (b : Bool) (x y : List Ace) → cond (not b) x y ≡ cond b y x
turned true x y = refl
turned false x y = refl

-- without pages every ACE stays
all_stay : (l : List Ace) → keep (unnamed []) l ≡ l
all_stay [] = refl
all_stay (a ∷ l) = ap (λ r. a ∷ r) (all_stay l)

module _ (luns : List ℕ) where
  -- a page that puts no ACE
  aces_other : (page : List ℕ) (pages : List (List ℕ)) (aces : List Ace) → is_grant page ≡ false → aces_after luns (page ∷ pages) aces ≡ aces_after luns pages aces
  unfolding aces_after new_aces
  aces_other page pages aces e = rw (unnamed_other page pages e aces, e)

  -- an ACE put before the others is put in the same place
  aces_put : (page : List ℕ) (pages : List (List ℕ)) (aces : List Ace) → is_grant page ≡ true → any (same_grant page) pages ≡ false → aces_after luns pages (put_ace (page_type page) (kept_id page) (grant_of luns page) aces) ≡ aces_after luns (page ∷ pages) aces
  unfolding aces_after put_ace new_aces
  aces_put page pages aces e h =
      let k = page_type page in
      let id = kept_id page in
      let content = grant_of luns page in
      let new : List Ace = cond (holds_nothing content) [] (ace_of k id content ∷ []) in
      let rest = gather (new_aces luns) pages in
      let others = keep (unnamed (page ∷ pages)) aces in
      let left : keep (unnamed pages) (keep (other_ace k id) aces ++ new) ≡ others ++ new = keep_append (unnamed pages) (keep (other_ace k id) aces) new ∙ ap₂ ◌++◌ (unnamed_both page pages e aces) (put_stays k id content pages (none_names page pages e h)) in
      let put : new ≡ new_aces luns page = sym (rw e (turned (holds_nothing content) _ _)) in
      ap (λ l. l ++ rest) left ∙ append_assoc others new rest ∙ ap (λ l. others ++ (l ++ rest)) put

  -- no page puts an ACE
  pub aces_none : (pages : List (List ℕ)) (aces : List Ace) → any is_grant pages ≡ false → aces_after luns pages aces ≡ aces
  unfolding aces_after
  aces_none [] aces h = append-nil _ ∙ all_stay aces
  aces_none (page ∷ pages) aces h =
      let r = or_false (is_grant page) (any is_grant pages) h in
      aces_other page pages aces r.0 ∙ aces_none pages aces r.1

  -- ---- the ACL, page by page
  unfoldable pub acl_by : List ℕ → Acl → Acl
  acl_by page acl =
      cond (is_grant page)
      (acl_of (put_ace (page_type page) (kept_id page) (grant_of luns page) (take acl.count acl.items)))
      acl

  -- an ACL that was put is read as it was put
  acl_read : (pages : List (List ℕ)) (put : List Ace) → acl_after luns pages (acl_of put) ≡ acl_of (aces_after luns pages put)
  unfolding acl_after
  acl_read pages put =
      let read = take_pad no_ace max_aces put in
      split (any is_grant pages) (λ f. rw (f, read)) (λ f. rw f (ap acl_of (sym (aces_none pages put f))))

  pub acl_pages : (pages : List (List ℕ)) (acl : Acl) → pairs same_grant pages ≡ false → in_order acl_by pages acl ≡ acl_after luns pages acl
  unfolding in_order acl_after pairs acl_by
  acl_pages [] acl h = refl
  acl_pages (page ∷ pages) acl h =
      let r = or_false (any (same_grant page) pages) (pairs same_grant pages) h in
      let aces = take acl.count acl.items in
      split
      (is_grant page)
      (λ e.
      let put = put_ace (page_type page) (kept_id page) (grant_of luns page) aces in
      rw e (acl_pages pages (acl_of put) r.1 ∙ acl_read pages put ∙ ap acl_of (aces_put page pages aces e r.0)))
      (λ e.
      rw e (acl_pages pages acl r.1 ∙ rw (aces_other page pages aces e)))
