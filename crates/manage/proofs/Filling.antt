-- A table that is filled from a list, entry by entry, as long as it has room: what it has, and what is left, are together the list.
use Prim.Native.Nat.{ℕ, ◌+◌, ◌≤◌, ◌<◌}
use mathlib.Core.Path.{◌≡◌, ap, sym, ◌∙◌}
use mathlib.Core.List.{List, [], ◌∷◌, ◌++◌, append_assoc, append-nil}
use mathlib.Core.Bool.{true, false}
use native.Mathlib.Omega.{arith}
use lib.ListN.{length, set, length-append}
use lib.Dec.{ltb}
use borrow.Author.Tests.{lt-ltb, le-ltb}
use Rattle.lists.specs.Tables.{filled}
use Rattle.lists.specs.declared.Table.{Table}
use Rattle.lists.proofs.Tables.{Built, built_more}

pub record Filling {A : Type 0} {size : ℕ} (blank : A) (target sofar rest : List A) (t : Table A size) : Type 0 where
  pub built : Built blank size sofar t.items t.count
  pub few : t.count ≤ size
  pub whole : target ≡ sofar ++ rest

module _ {A : Type 0} {size : ℕ} {blank : A} {target sofar rest : List A} {t : Table A size} (s : Filling blank target sofar rest t) where
  -- the next entry has room
  pub fill_more : {x : A} {rest' : List A} {t' : Table A size} → rest ≡ x ∷ rest' → t.count < size → t' ≡ record { count = t.count + 1; items = set t.items t.count x } → Filling blank target (sofar ++ (x ∷ [])) rest' t'
  fill_more {x} {rest'} e h u =
      rw u
      record {
        built = built_more s.built x h;
        few = omega arith;
        whole = s.whole ∙ ap (λ r. sofar ++ r) e ∙ sym (append_assoc sofar (x ∷ []) rest');
      }

  -- nothing is put
  pub fill_skip : {rest' : List A} → rest ≡ rest' → Filling blank target sofar rest' t
  fill_skip e =
      record {
        built = s.built;
        few = s.few;
        whole = s.whole ∙ ap (λ r. sofar ++ r) e;
      }

  -- the next entry has no room
  pub fill_full : {x : A} {rest' : List A} → rest ≡ x ∷ rest' → size ≤ t.count → ltb size (length target) ≡ true
  fill_full {x} {rest'} e h =
      lt-ltb size (length target) (omega (arith, ap length (s.whole ∙ ap (λ r. sofar ++ r) e), length-append sofar (x ∷ rest'), s.built.kept_is))

  -- nothing is left
  module _ (e : rest ≡ []) where
    pub fill_all : target ≡ sofar
    fill_all = s.whole ∙ ap (λ r. sofar ++ r) e ∙ append-nil sofar

    pub fill_fits : ltb size (length target) ≡ false
    fill_fits = le-ltb size (length target) (omega (arith, ap length fill_all, s.built.kept_is, s.few))

    pub fill_end : t ≡ filled blank size target
    fill_end = rw (fill_all, ← s.built.items_are, ← s.built.kept_is)
