-- The unit that a LUN opens by a T or A row is the one that the history places there.
use Prim.Native.Nat.{ℕ, ◌<◌}
use mathlib.Core.Path.{◌≡◌, refl, ap, ap₂, sym, ◌∙◌}
use mathlib.Core.List.{List, ◌++◌}
use Rattle.std.specs.Prelude.{Option, Some, None, option_map}
use mathlib.Core.Bool.{Bool, true, ◌&&◌}
use Rattle.lists.specs.Lists.{find, is_some}
use Rattle.lists.proofs.Tests.{clashes, none_not_some}
use Rattle.lists.proofs.Members.{find_map, none_find, from_map}
use Rattle.wire.specs.Lun.{head_of}
use Rattle.paper.specs.Grounds.{is_ta}
use Rattle.paper.specs.Setup.{Setup}
use Rattle.paper.specs.Contents.{held, Enrolment, not_enrolled, enrolled, pending}
use Rattle.paper.specs.Tables.{units_of, transport_of, enrolment_of, aces_of}
use Rattle.paper.specs.Rows.{content_for, row_at, rows_at, transport_rows, enrolment_rows, proxy_rows, rows_of, has_lun, row_with}
use Rattle.paper.specs.Applied.{unit_in, issued_token}
use Rattle.paper.specs.Readings.{History, given_to, enrolled_under, given_by_t, given_by_a, at_lun, place_named, token_from, token_issued}
use Rattle.paper.proofs.Invariant.{Agrees}
use Rattle.paper.proofs.Given.{holds_given, transport_given}
use Rattle.paper.proofs.GroundRows.{rows_on, from_proxies}
use Rattle.paper.proofs.ListLaws.{first_of, find_first, map_first}
use Rattle.paper.specs.declared.state.IdType.TheVariants.{AccessId, TransportId}
use Rattle.paper.specs.declared.state.Luacd.{Luacd}
use Rattle.paper.specs.declared.state.Ground.{Ground}
use Rattle.paper.specs.declared.state.Ground.TheVariants.{GroundA, GroundT, GroundW}
use Rattle.paper.specs.declared.state.Row.{Row}
use Rattle.paper.specs.declared.state.Coordinator.{Coordinator}

-- ---- the unit that a LUN names
abbrev unit_of_row : Row → ℕ
unit_of_row r = r.unit

abbrev unit_of_place : Luacd → ℕ
unit_of_place p = p.unit

abbrev named : ℕ → Row → Bool
named l r = is_ta r.ground && has_lun l r

-- the row of a place has its unit
unit_row : (i : ℕ) (g : Ground) (o : Option Luacd) → option_map unit_of_row (option_map (row_at i g) o) ≡ option_map unit_of_place o
unit_row i g None = refl
unit_row i g (Some p) = refl

-- W rows do not count, nor do X rows
no_w : (i l : ℕ) (ps : List Luacd) → find (named l) (rows_at i GroundW ps) ≡ None
no_w i l ps =
    none_find (named l) (rows_at i GroundW ps) (λ r m. let q = from_map (row_at i GroundW) ps m in ap (named l) q.2)

no_x : (c : Coordinator) (i l : ℕ) → find (named l) (proxy_rows c i) ≡ None
no_x c i l = none_find (named l) (proxy_rows c i) (λ r m. ap (named l) (from_proxies c i m).row)

-- T rows, and A rows, count by their LUN alone
unit_t : (i l : ℕ) (ps : List Luacd) → option_map unit_of_row (find (named l) (rows_at i GroundT ps)) ≡ option_map unit_of_place (find (at_lun l) ps)
unit_t i l ps =
    ap (option_map unit_of_row) (find_map (row_at i GroundT) (named l) ps) ∙ unit_row i GroundT (find (at_lun l) ps)

unit_a : (i l : ℕ) (ps : List Luacd) → option_map unit_of_row (find (named l) (rows_at i GroundA ps)) ≡ option_map unit_of_place (find (at_lun l) ps)
unit_a i l ps =
    ap (option_map unit_of_row) (find_map (row_at i GroundA) (named l) ps) ∙ unit_row i GroundA (find (at_lun l) ps)

-- a token is issued for the unit of the place that is named
issued_for : (i l n : ℕ) (o : Option Luacd) (r : Option Row) → is_some r ≡ true → option_map unit_of_row r ≡ option_map unit_of_place o → token_from i l n o ≡ Some (record { number = n; unit = unit_in r; requester = i; lun = head_of l })
issued_for i l n None None s e = clashes s refl
issued_for i l n (Some p) None s e = clashes s refl
issued_for i l n None (Some r) s e = absurd (none_not_some (sym e))
issued_for i l n (Some p) (Some r) s e =
    let q : p.unit ≡ r.unit = cc in ap (λ (u : ℕ). Some (record { number = n; unit = u; requester = i; lun = head_of l })) q

module _ (w : Setup) (h : History) (c : Coordinator) (a : Agrees w h c) (i l : ℕ) (there : i < c.initiators.count) where
  unit_by_t : option_map unit_of_row (find (named l) (transport_rows c i)) ≡ option_map unit_of_place (find (at_lun l) (given_by_t w h i))
  unfolding transport_rows
  unit_by_t =
      unit_t i l (held (units_of c) (content_for (aces_of c) TransportId (transport_of c i)))
      ∙ ap (λ (ps : List Luacd). option_map unit_of_place (find (at_lun l) ps)) (transport_given w h c a i there)

  unit_enrolled : (e : Enrolment) → option_map unit_of_row (find (named l) (enrolment_rows c i e)) ≡ option_map unit_of_place (find (at_lun l) (given_to w h AccessId (enrolled_under e)))
  unfolding enrolment_rows
  unit_enrolled not_enrolled = refl
  unit_enrolled (enrolled id) =
      unit_a i l (held (units_of c) (content_for (aces_of c) AccessId id))
      ∙ ap (λ (ps : List Luacd). option_map unit_of_place (find (at_lun l) ps)) (holds_given w h c a AccessId id)
  unit_enrolled (pending id) = ap (option_map unit_of_row) (no_w i l (held (units_of c) (content_for (aces_of c) AccessId id)))

  unit_by_a : option_map unit_of_row (find (named l) (enrolment_rows c i (enrolment_of c i))) ≡ option_map unit_of_place (find (at_lun l) (given_by_a w h i))
  unit_by_a =
      unit_enrolled (enrolment_of c i)
      ∙ ap (λ (e : Enrolment). option_map unit_of_place (find (at_lun l) (given_to w h AccessId (enrolled_under e)))) (a.enrolments i)

  -- the places of a T page, then those of an A page
  unit_named : c.enabled ≡ true → option_map unit_of_row (row_with is_ta l (rows_of c i)) ≡ option_map unit_of_place (place_named w h i l)
  unfolding row_with place_named
  unit_named on =
      ap (λ (rows : List Row). option_map unit_of_row (find (named l) rows)) (rows_on c i on)
      ∙ (ap (option_map unit_of_row) (find_first (named l) (transport_rows c i) (enrolment_rows c i (enrolment_of c i) ++ proxy_rows c i))
      ∙ (map_first unit_of_row (find (named l) (transport_rows c i)) (find (named l) (enrolment_rows c i (enrolment_of c i) ++ proxy_rows c i))
      ∙ (ap₂ first_of unit_by_t no_more
      ∙ (sym (map_first unit_of_place (find (at_lun l) (given_by_t w h i)) (find (at_lun l) (given_by_a w h i)))
      ∙ ap (option_map unit_of_place) (sym (find_first (at_lun l) (given_by_t w h i) (given_by_a w h i)))))))
    where
      nothing_after : (o : Option Row) → first_of o None ≡ o
      nothing_after None = refl
      nothing_after (Some r) = refl

      no_more : option_map unit_of_row (find (named l) (enrolment_rows c i (enrolment_of c i) ++ proxy_rows c i)) ≡ option_map unit_of_place (find (at_lun l) (given_by_a w h i))
      no_more =
          ap (option_map unit_of_row) (find_first (named l) (enrolment_rows c i (enrolment_of c i)) (proxy_rows c i) ∙ (ap (first_of (find (named l) (enrolment_rows c i (enrolment_of c i)))) (no_x c i l) ∙ nothing_after (find (named l) (enrolment_rows c i (enrolment_of c i)))))
          ∙ unit_by_a

  -- so the token that the tables hold is the one that the history knows
  pub issued_token_lem : (n : ℕ) → c.enabled ≡ true → is_some (row_with is_ta l (rows_of c i)) ≡ true → token_issued w h i l n ≡ Some (issued_token c i l n)
  issued_token_lem n on opens = issued_for i l n (place_named w h i l) (row_with is_ta l (rows_of c i)) opens (unit_named on)
