-- Rows that are some of those before, in their order, clash no more than those did. Clashing looks at a ground through T, A, W alone, so that an A row may turn W.
use Prim.Native.Nat.{ℕ, ◌<◌}
use mathlib.Core.Path.{◌≡◌, refl, ap₂, ◌∙◌}
use mathlib.Core.List.{List, [], ◌∷◌, ◌++◌}
use mathlib.Core.Bool.{Bool, true, false, cond}
use native.Mathlib.Omega.{arith}
use borrow.Author.Tests.{not-true}
use Rattle.lists.specs.Lists.{keep, any, pairs, gather, below}
use Rattle.lists.proofs.Tests.{split, clashes, or_false}
use Rattle.lists.proofs.Members.{any_none, none_any}
use Rattle.lists.proofs.Parts.{in_count, from_count}
use Rattle.paper.specs.Contents.{held, Enrolment, not_enrolled, enrolled, pending}
use Rattle.paper.specs.Tables.{units_of, enrolment_of, aces_of}
use Rattle.paper.specs.Rows.{content_for, rows_at, transport_rows, enrolment_rows, proxy_rows, open_rows, rows_of, clashing, clash_for, some_clash}
use Rattle.paper.specs.Standing.{no_clash}
use Rattle.paper.specs.declared.state.IdType.TheVariants.{AccessId}
use Rattle.paper.specs.declared.state.Ace.{Ace}
use Rattle.paper.specs.declared.state.Ground.TheVariants.{GroundA, GroundW}
use Rattle.paper.specs.declared.state.Row.{Row}
use Rattle.paper.specs.declared.state.Coordinator.{Coordinator}

-- ---- some of a list, in its order, up to what a test of pairs sees
abbrev pub Alike : {A : Type 0} → (A → A → Bool) → A → A → Type 0
Alike {A} f x y = (s : A) → (f x s ≡ f y s) × (f s x ≡ f s y)

pub data Fewer {A : Type 0} (f : A → A → Bool) : List A → List A → Type 0 where
  fewest : Fewer f [] []
  less : {y : A} {l m : List A} → Fewer f l m → Fewer f l (y ∷ m)
  more : {x y : A} {l m : List A} → Alike f x y → Fewer f l m → Fewer f (x ∷ l) (y ∷ m)

module _ {A : Type 0} (f : A → A → Bool) where
  pub some_all : (l : List A) → Fewer f l l
  some_all [] = fewest
  some_all (x ∷ l) = more (λ s. (refl, refl)) (some_all l)

  pub some_none : (l : List A) → Fewer f [] l
  some_none [] = fewest
  some_none (x ∷ l) = less (some_none l)

  some_less : (k : List A) {l m : List A} → Fewer f l m → Fewer f l (k ++ m)
  some_less [] s = s
  some_less (x ∷ k) s = less (some_less k s)

  some_append : {k l m n : List A} → Fewer f k m → Fewer f l n → Fewer f (k ++ l) (m ++ n)
  some_append fewest t = t
  some_append (less s) t = less (some_append s t)
  some_append (more e s) t = more e (some_append s t)

  any_some : {x y : A} {l m : List A} → Alike f x y → Fewer f l m → any (f y) m ≡ false → any (f x) l ≡ false
  any_some e fewest h = refl
  any_some {y = y} e (less {y = z} {m = m} s) h = any_some e s (or_false (f y z) (any (f y) m) h).1
  any_some {x} {y} e (more {x = w} {y = z} {m = m} g s) h =
      let r = or_false (f y z) (any (f y) m) h in
      rw ((e w).0 ∙ ((g y).1 ∙ r.0), any_some e s r.1)

  pub pairs_some : {l m : List A} → Fewer f l m → pairs f m ≡ false → pairs f l ≡ false
  unfolding pairs
  pairs_some fewest h = refl
  pairs_some (less {y = z} {m = m} s) h = pairs_some s (or_false (any (f z) m) (pairs f m) h).1
  pairs_some (more {y = z} {m = m} e s) h =
      let r = or_false (any (f z) m) (pairs f m) h in rw (any_some e s r.0, pairs_some s r.1)

  -- what the elements of a list give, if some of them go and some give less
  pub some_gather : {B : Type 0} (g k : B → List A) (p q : B → Bool) → ((x : B) → Fewer f (g x) (k x)) → (l : List B) → Fewer f (gather g (keep p (keep q l))) (gather k (keep p l))
  some_gather g k p q s [] = fewest
  some_gather g k p q s (x ∷ l) =
      let t = some_gather g k p q s l in
      split
      (p x)
      (λ d. split (q x) (λ e. simp (d, e) (some_append (s x) t)) (λ e. simp (d, e) (some_less (k x) t)))
      (λ d. split (q x) (λ e. simp (d, e) t) (λ e. simp (d, e) t))

-- ---- clashes, initiator by initiator
pub clash_none : (c : Coordinator) → no_clash c ≡ true → (i : ℕ) → i < c.initiators.count → clash_for c i ≡ false
unfolding no_clash some_clash
clash_none c h i k =
    any_none (clash_for c) (not-true _ h) (in_count 0 c.initiators.count (omega arith) (omega arith))

pub none_clash : (c : Coordinator) → ((i : ℕ) → i < c.initiators.count → clash_for c i ≡ false) → no_clash c ≡ true
unfolding no_clash some_clash
none_clash c f =
    rw (none_any (clash_for c) (below c.initiators.count) (λ i m. f i (omega (arith, (from_count 0 c.initiators.count m).1))))

module _ (c d : Coordinator) (same : d.initiators.count ≡ c.initiators.count) where
  pub fewer_rows : ((i : ℕ) → i < c.initiators.count → Fewer clashing (rows_of d i) (rows_of c i)) → no_clash c ≡ true → no_clash d ≡ true
  fewer_rows f h =
      none_clash d (λ i k. let l : i < c.initiators.count = omega arith in pairs_some clashing (f i l) (clash_none c h i l))

-- the rows by their grounds
pub some_rows : (c d : Coordinator) (i : ℕ) → d.enabled ≡ c.enabled → open_rows d i ≡ open_rows c i → Fewer clashing (transport_rows d i) (transport_rows c i) → Fewer clashing (enrolment_rows d i (enrolment_of d i)) (enrolment_rows c i (enrolment_of c i)) → Fewer clashing (proxy_rows d i) (proxy_rows c i) → Fewer clashing (rows_of d i) (rows_of c i)
unfolding rows_of
some_rows c d i on same t e x =
    either d.enabled c.enabled on (some_append clashing t (some_append clashing e x)) (rw same (some_all clashing (open_rows c i)))
  where
    either : (a b : Bool) → a ≡ b → {k l m n : List Row} → Fewer clashing k m → Fewer clashing l n → Fewer clashing (cond a k l) (cond b m n)
    either true true h s t = s
    either false false h s t = t
    either true false h s t = clashes refl h
    either false true h s t = clashes h refl

-- the rows of an enrolment ask for the ACEs and the units alone
pub same_enrolment : (c d : Coordinator) → aces_of d ≡ aces_of c → units_of d ≡ units_of c → (i : ℕ) (e : Enrolment) → enrolment_rows d i e ≡ enrolment_rows c i e
unfolding enrolment_rows
same_enrolment c d a u i not_enrolled = refl
same_enrolment c d a u i (enrolled id) =
    ap₂ (λ (l : List ℕ) (m : List Ace). rows_at i GroundA (held l (content_for m AccessId id))) u a
same_enrolment c d a u i (pending id) =
    ap₂ (λ (l : List ℕ) (m : List Ace). rows_at i GroundW (held l (content_for m AccessId id))) u a
