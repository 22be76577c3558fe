-- One type and identifier: an equivalence, which reads of an identifier no more than is kept of it.
use Prim.Native.Nat.{ℕ, ◌<◌}
use mathlib.Core.Path.{◌≡◌, refl, ◌∙◌}
use mathlib.Core.List.{List}
use mathlib.Core.Bool.{true}
use native.Mathlib.Omega.{arith}
use lib.ListN.{get_or, take}
use lib.Seq.{get_or-take}
use Rattle.lists.proofs.Tests.{clashes}
use Rattle.lists.proofs.Bytes.{same_at, same_sym}
use Rattle.lists.proofs.Tables.{get_or_everywhere, pad_again}
use Rattle.lists.proofs.Members.{find_same}
use Rattle.paper.specs.Sizes.{id_size}
use Rattle.paper.specs.Identifiers.{compared_bytes, same_id, kept}
use Rattle.paper.specs.Rows.{is_for, ace_for}
use Rattle.paper.proofs.ListLaws.{same_like}
use Rattle.paper.specs.declared.state.IdType.{IdType}
use Rattle.paper.specs.declared.state.IdType.TheVariants.{AccessId, TransportId}
use Rattle.paper.specs.declared.state.Ace.{Ace}

-- ---- an equivalence
pub same_id_sym : (k : IdType) (a : List ℕ) (l : IdType) (b : List ℕ) → same_id k a l b ≡ same_id l b k a
unfolding same_id
same_id_sym AccessId a AccessId b = same_sym a b 16
same_id_sym AccessId a TransportId b = refl
same_id_sym TransportId a AccessId b = refl
same_id_sym TransportId a TransportId b = same_sym a b id_size

-- the same identifiers are the same as any third
pub same_right : (k : IdType) (a : List ℕ) (l : IdType) (b : List ℕ) → same_id k a l b ≡ true → (m : IdType) (x : List ℕ) → same_id m x k a ≡ same_id m x l b
unfolding same_id
same_right AccessId a AccessId b e AccessId x = same_like 16 x a x b (λ i h. refl) (λ i h. same_at a b 16 i e h)
same_right AccessId a AccessId b e TransportId x = refl
same_right TransportId a TransportId b e AccessId x = refl
same_right TransportId a TransportId b e TransportId x = same_like id_size x a x b (λ i h. refl) (λ i h. same_at a b id_size i e h)
same_right AccessId a TransportId b e m x = clashes e refl
same_right TransportId a AccessId b e m x = clashes e refl

pub same_left : (k : IdType) (a : List ℕ) (l : IdType) (b : List ℕ) → same_id k a l b ≡ true → (m : IdType) (x : List ℕ) → same_id k a m x ≡ same_id l b m x
same_left k a l b e m x = same_id_sym k a m x ∙ (same_right k a l b e m x ∙ same_id_sym m x l b)

-- ---- what is compared of an identifier is kept
pub kept_at : (k : IdType) (id : List ℕ) (i : ℕ) → i < compared_bytes k → get_or (kept k id) i 0 ≡ get_or id i 0
kept_at k id i h = get_or_everywhere 0 id_size (take (compared_bytes k) id) i ∙ get_or-take (compared_bytes k) id i 0 h

pub same_kept : (k : IdType) (a : List ℕ) (l : IdType) (b : List ℕ) → same_id k a l (kept l b) ≡ same_id k a l b
unfolding same_id
same_kept AccessId a AccessId b = same_like 16 a (kept AccessId b) a b (λ i h. refl) (kept_at AccessId b)
same_kept AccessId a TransportId b = refl
same_kept TransportId a AccessId b = refl
same_kept TransportId a TransportId b = same_like id_size a (kept TransportId b) a b (λ i h. refl) (kept_at TransportId b)

pub kept_same : (k : IdType) (a : List ℕ) (l : IdType) (b : List ℕ) → same_id k (kept k a) l b ≡ same_id k a l b
kept_same k a l b = same_id_sym k (kept k a) l b ∙ (same_kept l b k a ∙ same_id_sym l b k a)

-- so an identifier as it is kept has the ACE that it had
pub ace_kept : (aces : List Ace) (k : IdType) (id : List ℕ) → ace_for aces k (kept k id) ≡ ace_for aces k id
unfolding ace_for
ace_kept aces k id = find_same (is_for k (kept k id)) (is_for k id) aces (λ a h. same_kept a.kind a.id k id)

-- what was kept is kept as it is
pub kept_again : (k : IdType) (id : List ℕ) → kept k (kept k id) ≡ kept k id
kept_again AccessId id = pad_again 0 id_size 16 id (omega arith)
kept_again TransportId id = pad_again 0 id_size id_size id (omega arith)
