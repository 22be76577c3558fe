-- What a page gives that phases 3 and 4 let pass: a valid identifier, and LUACDs that keep the rules.
use Prim.Native.Nat.{ℕ, ◌≤◌}
use mathlib.Core.Path.{◌≡◌, refl, ap, sym, ◌∙◌}
use mathlib.Core.List.{List, [], ◌∷◌}
use mathlib.Core.Bool.{Bool, true, false, not}
use mathlib.Core.Bool as Bool
use mathlib.Core.Logic.{⊎_elim}
use native.Mathlib.Omega.{arith}
use lib.ListN.{length, get_or}
use lib.Dec.{eqb, ltb}
use borrow.Author.Tests.{not-false, eqb-true, eq-eqb, eqb-false, ltb-true, lt-ltb}
use Rattle.lists.specs.Lists.{◌∈◌, here, there, any, pairs, place_of}
use Rattle.lists.proofs.Tests.{split, clashes, and_true, and_false, or_false, or_true}
use Rattle.lists.proofs.Members.{in_cons, any_none, none_any, in_all, all_map, pairs_map, place_some, place_passes}
use Rattle.wire.specs.Lun.{lun_of, head_of, lun_form}
use Rattle.paper.specs.Sizes.{id_size}
use Rattle.paper.specs.Identifiers.{valid_transport, kept}
use Rattle.paper.specs.Contents.{these, everything}
use Rattle.paper.specs.Standing.{same_lun_or_unit, luacd_formed, valid_id}
use Rattle.paper.specs.Pages.{type_in, page_type, page_id, kept_id, id_length_in, descriptors_of, overrules, not_overruled, is_default, luacd_of, page_luacds, bad_identifier, bad_place}
use Rattle.paper.proofs.Getters.{length_kept}
use Rattle.paper.proofs.ListLaws.{pairs_less}
use Rattle.paper.proofs.Luns.{lun_whole}
use Rattle.paper.proofs.SameId.{kept_at}
use Rattle.paper.proofs.Ruled.{unit_below}
use Rattle.paper.proofs.GrantStands.{ContentRuled}
use Rattle.paper.specs.declared.state.IdType.TheVariants.{TransportId}
use Rattle.paper.specs.declared.state.Descriptor.{Descriptor}

-- ---- the identifier
valid_kept : (id : List ℕ) → valid_transport id ≡ true → valid_transport (kept TransportId id) ≡ true
unfolding valid_transport
valid_kept id h =
    let small = (and_true (eqb (length id) id_size) _ h).1 in
    rw (eq-eqb _ _ (length_kept TransportId id)) (ap (λ b. ltb b 2) (kept_at TransportId id 0 (omega arith)) ∙ small)

pub page_valid : (page : List ℕ) → bad_identifier page ≡ false → valid_id (page_type page) (kept_id page) ≡ true
unfolding bad_identifier
page_valid page h =
    let a = or_false (not (ltb (type_in page) 2)) _ h in
    let b = or_false (not (eqb (id_length_in page) id_size)) _ a.1 in
    split
    (eqb (type_in page) 0)
    (λ e. rw e)
    (λ e.
    let two = ltb-true (type_in page) 2 (not-false _ a.0) in
    let one : type_in page ≡ 1 = omega (arith, eqb-false (type_in page) 0 e) in
    let valid : valid_transport (page_id id_size page) ≡ true =
    ⊎_elim (λ q. clashes (eq-eqb _ _ one) q) (λ q. not-false _ q) (and_false (eqb (type_in page) 1) _ b.1) in
    rw e (valid_kept (page_id id_size page) valid))

-- ---- LUACDs that stand
from_standing : {d : Descriptor} (ds : List Descriptor) → d ∈ not_overruled ds → d ∈ ds
unfolding not_overruled
from_standing [] h = h
from_standing (x ∷ ds) h =
    split
    (any (overrules x) ds)
    (λ e. there (from_standing ds (rw e at h)))
    (λ e. ⊎_elim (λ q. here q) (λ q. there (from_standing ds q)) (in_cons (rw e at h)))

none_overrules : (ds : List Descriptor) → pairs overrules (not_overruled ds) ≡ false
unfolding not_overruled pairs
none_overrules [] = refl
none_overrules (x ∷ ds) =
    split
    (any (overrules x) ds)
    (λ e. rw e (none_overrules ds))
    (λ e.
    rw e
    (rw (none_any (overrules x) (not_overruled ds) (λ y m. any_none (overrules x) e (from_standing ds m))) (none_overrules ds)))

-- ---- one LUACD that phase 4 lets pass
record Placed (luns : List ℕ) (d : Descriptor) : Type 0 where
  formed : lun_form d.lun ≡ true
  there_is : any (is_default d.default) luns ≡ true

placed_by : (luns : List ℕ) (d : Descriptor) → bad_place luns d ≡ false → Placed luns d
placed_by luns d h =
    let r = or_false (not (lun_form d.lun)) _ h in record { formed = not-false _ r.0; there_is = not-false _ r.1 }

-- one default LUN is at one place
default_at : (luns : List ℕ) (d : Descriptor) → Placed luns d → lun_of (get_or luns (place_of (is_default d.default) luns) 0) ≡ d.default
default_at luns d p = eqb-true _ _ (place_passes (is_default d.default) 0 luns p.there_is)

-- with its LUN or its unit, a LUACD has its LUN or its default LUN
overrules_by : (luns : List ℕ) (x y : Descriptor) → Placed luns x → Placed luns y → same_lun_or_unit (luacd_of luns x) (luacd_of luns y) ≡ true → overrules x y ≡ true
overrules_by luns x y p q h =
    ⊎_elim
    (λ e.
    let same : y.lun ≡ x.lun = sym (lun_whole y.lun q.formed) ∙ (ap lun_of (sym (eqb-true _ _ e)) ∙ lun_whole x.lun p.formed) in
    rw (eq-eqb y.lun x.lun same))
    (λ e.
    let same : y.default ≡ x.default = sym (default_at luns y q) ∙ (ap (λ i. lun_of (get_or luns i 0)) (sym (eqb-true _ _ e)) ∙ default_at luns x p) in
    rw (eq-eqb y.default x.default same) (Bool.or-true (eqb y.lun x.lun)))
    (or_true (eqb (head_of x.lun) (head_of y.lun)) _ h)

-- ---- what a page gives
pub everything_ruled : (units : ℕ) → ContentRuled units everything
unfolding pairs
everything_ruled units = record { once = refl; formed = refl; placed = refl }

-- the LUACDs of a page
pub page_content : (units : ℕ) (luns page : List ℕ) → length luns ≤ units → any (bad_place luns) (descriptors_of page) ≡ false → ContentRuled units (these (page_luacds luns page))
unfolding page_luacds
page_content units luns page fit h =
    let ds = descriptors_of page in
    let standing = not_overruled ds in
    let good : (d : Descriptor) → d ∈ standing → Placed luns d = λ d m. placed_by luns d (any_none (bad_place luns) h (from_standing ds m)) in
    record {
      once =
          pairs_map (luacd_of luns) same_lun_or_unit standing
          ∙ pairs_less overrules (λ x y. same_lun_or_unit (luacd_of luns x) (luacd_of luns y)) standing (λ x y m n q. overrules_by luns x y (good x m) (good y n) q) (none_overrules ds);
      formed =
          all_map (luacd_of luns) luacd_formed standing
          ∙ in_all (λ d. luacd_formed (luacd_of luns d)) standing (λ d m. ap lun_form (lun_whole d.lun (good d m).formed) ∙ (good d m).formed);
      placed =
          all_map (luacd_of luns) (unit_below units) standing
          ∙ in_all (λ d. unit_below units (luacd_of luns d)) standing (λ d m.
          let k = place_some (is_default d.default) luns (good d m).there_is in
          lt-ltb (place_of (is_default d.default) luns) units (omega arith));
    }
