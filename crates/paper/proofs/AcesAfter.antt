-- An ACE that is put holds for its identifier what the page gives, and every other identifier holds what it held.
use Prim.Native.Nat.{ℕ}
use mathlib.Core.Path.{◌≡◌, refl, ap, sym, ◌∙◌}
use mathlib.Core.List.{List, [], ◌∷◌, ◌++◌, append-nil}
use Rattle.std.specs.Prelude.{None}
use mathlib.Core.Bool.{true, false, cond, not}
use Rattle.lists.specs.Lists.{find, keep}
use Rattle.lists.proofs.Tests.{split, clashes}
use Rattle.lists.proofs.Members.{find_kept, find_gone, find_put}
use Rattle.paper.specs.Identifiers.{same_id}
use Rattle.paper.specs.Contents.{Content, these, everything, holds_nothing}
use Rattle.paper.specs.Tables.{ace_of}
use Rattle.paper.specs.Rows.{is_for, ace_for, content_in, content_for}
use Rattle.paper.specs.Applied.{other_ace, put_ace}
use Rattle.paper.proofs.Getters.{content_of_lem}
use Rattle.paper.proofs.SameId.{same_right, same_left}
use Rattle.paper.specs.declared.state.IdType.{IdType}
use Rattle.paper.specs.declared.state.Ace.{Ace}

nothing_is : (content : Content) → holds_nothing content ≡ true → content ≡ these []
nothing_is (these []) e = refl
nothing_is (these (p ∷ ps)) e = clashes e refl
nothing_is everything e = clashes e refl

-- the ACE that is put is the one of its identifier
pub for_put : (k : IdType) (id : List ℕ) (content : Content) (l : IdType) (x : List ℕ) → is_for l x (ace_of k id content) ≡ same_id k id l x
for_put k id (these ls) l x = refl
for_put k id everything l x = refl

module _ (k : IdType) (id : List ℕ) (aces : List Ace) (l : IdType) (x : List ℕ) where
  -- the identifier's own ACE is dropped
  gone : same_id k id l x ≡ true → find (is_for l x) (keep (other_ace k id) aces) ≡ None
  gone e =
      find_gone (is_for l x) (other_ace k id) aces
      (λ a m h. ap not (same_right k id l x e a.kind a.id ∙ h))

  -- the ACEs of others stay
  spared : same_id k id l x ≡ false → find (is_for l x) (keep (other_ace k id) aces) ≡ find (is_for l x) aces
  spared e =
      find_kept (is_for l x) (other_ace k id) aces
      (λ a m h. split (is_for k id a) (λ q. clashes (sym (same_left a.kind a.id k id q l x) ∙ h) e) (λ q. ap not q))

  pub content_put : (content : Content) → content_for (put_ace k id content aces) l x ≡ cond (same_id k id l x) content (content_for aces l x)
  unfolding put_ace ace_for
  content_put content =
      split
      (holds_nothing content)
      (λ e. rw (e, append-nil) (removed (nothing_is content e)))
      (λ e. rw e (replaced))
    where
      removed : content ≡ these [] → content_in (find (is_for l x) (keep (other_ace k id) aces)) ≡ cond (same_id k id l x) content (content_in (find (is_for l x) aces))
      removed n = split (same_id k id l x) (λ q. rw (q, gone q, n)) (λ q. rw (q, spared q))

      replaced : content_in (find (is_for l x) (keep (other_ace k id) aces ++ (ace_of k id content ∷ []))) ≡ cond (same_id k id l x) content (content_in (find (is_for l x) aces))
      replaced =
          ap content_in (find_put (is_for l x) (keep (other_ace k id) aces) (ace_of k id content) (λ q. gone (sym (for_put k id content l x) ∙ q)))
          ∙ (rw (for_put k id content l x) (split (same_id k id l x) (λ q. rw q (content_of_lem k id content)) (λ q. rw (q, spared q))))
