-- Which descriptors of a run stand, counted and put into an array as long as it has room, and the unit of each.
use Prim.Native.Nat.{ℕ, ◌+◌, ◌≤◌, ◌<◌}
use mathlib.Core.Path.{◌≡◌, refl, ap, sym, ◌∙◌}
use mathlib.Core.List.{List, [], ◌∷◌, ◌++◌, map, append_assoc, append-nil}
use mathlib.Core.Bool.{Bool, true, false, cond}
use native.Mathlib.Omega.{arith}
use lib.ListN.{length, replicate, length-append}
use lib.Dec.{ltb}
use borrow.Author.Tests.{ltb-true, ltb-false, lt-ltb, le-ltb}
use Rattle.std.specs.Prelude.{Some, None, Result, Ok, Err}
use Rattle.std.specs.List.{position_or_len}
use Rattle.std.specs.Option.{unwrap_or}
use Rattle.std.proofs.lemmas.List.{take_all, take-append-le}
use Rattle.std.proofs.lemmas.List.Recursion.{is_position_or_len}
use Rattle.lists.specs.Lists.{any, place_of}
use Rattle.lists.specs.declared.Table.{Table}
use Rattle.lists.proofs.Tests.{split}
use Rattle.lists.proofs.Tables.{pad_more}
use Rattle.lists.proofs.Members.{place_within}
use Rattle.paper.specs.Tables.{no_luacd}
use Rattle.paper.specs.Pages.{descriptors_in, overrules, not_overruled, luacd_of}
use Rattle.paper.specs.declared.state.Luacd.{Luacd}
use Rattle.paper.specs.declared.state.Descriptor.{Descriptor}
use Rattle.paper.specs.declared.answers.Condition.{Condition}
use Rattle.paper.specs.declared.answers.Condition.TheVariants.{NoRoom}
use Rattle.manage.specs.Luacds.{luacds_in, filled_with, joined_to, listed_in}
use Rattle.manage.specs.declared.luacds.Filled.{Filled}
use Rattle.manage.proofs.EndState.{length_descriptors}

-- ---- the first 16, and how many there are
filled_more : (ls : List Luacd) (p : Luacd) → joined_to (filled_with ls) p ≡ filled_with (ls ++ (p ∷ []))
unfolding filled_with joined_to
filled_more ls p =
    let one : length (ls ++ (p ∷ [])) ≡ length ls + 1 = length-append ls (p ∷ []) in
    split
    (ltb (length ls) 16)
    (λ e.
    let room = ltb-true (length ls) 16 e in
    rw (e, take_all 16 ls (omega arith), take_all 16 (ls ++ (p ∷ [])) (omega arith), ← one)
    (ap (λ luacds. record { luacds = luacds; count = length (ls ++ (p ∷ [])) }) (pad_more no_luacd 16 ls p room)))
    (λ e. rw (e, take-append-le 16 ls (p ∷ []) (ltb-false (length ls) 16 e), one))

-- as a table, if there are no more than 16
module _ (ls : List Luacd) {f : Filled} (is : f ≡ filled_with ls) where
  pub listed_none : 16 < f.count → ◌≡◌ {A = Result (Table Luacd 16) Condition} (Err NoRoom) (listed_in ls)
  unfolding filled_with listed_in
  listed_none h = rw (lt-ltb 16 (length ls) (rw is at h))

  pub listed_all : f.count ≤ 16 → ◌≡◌ {A = Result (Table Luacd 16) Condition} (Ok (record { count = f.count; items = f.luacds })) (listed_in ls)
  unfolding filled_with listed_in
  listed_all h =
      let few : length ls ≤ 16 = rw is at h in
      rw (is, take_all 16 ls few, le-ltb 16 (length ls) few)

-- ---- descriptor after descriptor: the LUACDs so far, and those of the descriptors that are left, are together the ones that stand
pub record Standing (luns run : List ℕ) (f : Filled) (ds : List Descriptor) : Type 0 where
  pub sofar : List Luacd
  pub is : f ≡ filled_with sofar
  pub whole : luacds_in luns run ≡ sofar ++ map (luacd_of luns) (not_overruled ds)
  pub few : length sofar + length ds ≤ length run

pub stand_first : (luns run : List ℕ) {blank : Luacd} {ds : List Descriptor} → blank ≡ no_luacd → ds ≡ descriptors_in run → Standing luns run (record { luacds = replicate 16 blank; count = 0 }) ds
unfolding luacds_in filled_with
stand_first luns run b e =
    rw (b, e)
    record {
      sofar = [];
      is = refl;
      whole = refl;
      few = omega (arith, length_descriptors run);
    }

module _ {luns run : List ℕ} {f : Filled} {ds : List Descriptor} (s : Standing luns run f ds) where
  -- each LUACD so far has a descriptor of its own, and one is left
  pub stand_counts : {d : Descriptor} {later : List Descriptor} → ds ≡ d ∷ later → f.count < length run
  unfolding filled_with
  stand_counts e = omega (arith, ap (λ x. x.count) s.is, ap length e, s.few)

  -- one more descriptor
  module _ {d : Descriptor} {later : List Descriptor} {b : Bool} (e : ds ≡ d ∷ later) (o : b ≡ any (overrules d) later) where
    pub stand_falls : b ≡ true → Standing luns run f later
    unfolding not_overruled
    stand_falls h =
        record {
          sofar = s.sofar;
          is = s.is;
          whole = s.whole ∙ rw (e, ← o, h);
          few = omega (arith, ap length e, s.few);
        }

    pub stand_more : b ≡ false → {f' : Filled} → f' ≡ joined_to f (luacd_of luns d) → Standing luns run f' later
    unfolding not_overruled
    stand_more h u =
        let p = luacd_of luns d in
        record {
          sofar = s.sofar ++ (p ∷ []);
          is = u ∙ ap (λ x. joined_to x p) s.is ∙ filled_more s.sofar p;
          whole = s.whole ∙ rw (e, ← o, h, append_assoc);
          few = omega (arith, ap length e, length-append s.sofar (p ∷ []), s.few);
        }

  pub stand_end : ds ≡ [] → f ≡ filled_with (luacds_in luns run)
  unfolding not_overruled
  stand_end e = s.is ∙ ap filled_with (sym (s.whole ∙ rw (e, append-nil)))

-- ---- the place that passes, or the list's length
place_is : {A : Type 0} (p : A → Bool) (l : List A) → place_of p l ≡ position_or_len p l
unfolding place_of
place_is p l = is_position_or_len (place_of p) p refl (λ x xs. split (p x) (λ e. rw e) (λ e. rw e (omega arith))) l

pub place_or_length : {A : Type 0} (p : A → Bool) (l : List A) → unwrap_or (cond (ltb (position_or_len p l) (length l)) (Some (position_or_len p l)) None) (length l) ≡ place_of p l
place_or_length p l =
    let is = place_is p l in
    split
    (ltb (position_or_len p l) (length l))
    (λ e. rw e (sym is))
    (λ e. rw e (omega (arith, is, place_within p l, ltb-false _ _ e)))

-- a descriptor stands, or falls
pub ruleset stand = (stand_more, stand_falls)

-- an ACE has room for them, or has none
pub ruleset listed = (listed_none, listed_all)
