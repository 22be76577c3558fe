-- ASSIGN PROXY LUN keeps the standing rules: it adds an X row whose LUN no other row of the initiator has, and X rows do not clash by unit.
use Prim.Native.Nat.{ℕ, ◌<◌}
use mathlib.Core.Path.{◌≡◌, refl, ap, ◌∙◌, subst}
use mathlib.Core.List.{[], ◌∷◌, ◌++◌, append_assoc, append-nil}
use mathlib.Core.Bool.{◌&&◌, Bool, true, false}
use mathlib.Core.Bool as Bool
use native.Mathlib.Omega.{arith}
use lib.ListN.{length-append}
use lib.Dec.{eqb}
use borrow.Author.Tests.{eqb-true, lt-ltb}
use Rattle.lists.specs.Lists.{◌∈◌, keep, any, gather}
use Rattle.lists.proofs.Tests.{split}
use Rattle.lists.proofs.Members.{any_none, none_any, keep_append, pairs_last}
use Rattle.lists.proofs.Parts.{gather_append}
use Rattle.wire.specs.Lun.{head_of}
use Rattle.paper.specs.Grounds.{is_taw}
use Rattle.paper.specs.Tables.{enrolment_of, tokens_of, proxies_of, with_proxies}
use Rattle.paper.specs.Rows.{token_for, row_of_proxy, owned_by, transport_rows, proxy_rows, rows_of, clashing, clash_for, has_lun}
use Rattle.paper.specs.Standing.{same_proxy, empty_while_off, standing}
use Rattle.paper.specs.Effects.{assigned, proxying}
use Rattle.paper.specs.Applied.{applied}
use Rattle.paper.specs.Commands.{passes, assign_tests}
use Rattle.paper.proofs.Getters.{proxies_with}
use Rattle.paper.proofs.Stood.{stood, counted}
use Rattle.paper.proofs.Ruled.{Ruled, ruled, stands_by, ProxyRuled}
use Rattle.paper.proofs.GroundRows.{rows_on, proxy_to, no_proxy_lem}
use Rattle.paper.proofs.FewerRows.{clash_none, none_clash, same_enrolment}
use Rattle.paper.proofs.Counts.{within, proxies_counted, proxies_within, live_on}
use Rattle.paper.proofs.TablesStand.{put_proxies}
use Rattle.paper.proofs.ListLaws.{some_there, each_last}
use Rattle.paper.proofs.Luns.{lun_whole, head_is}
use Rattle.paper.proofs.Passed.{Assigns, assigns}
use Rattle.paper.specs.declared.state.Ground.TheVariants.{GroundX}
use Rattle.paper.specs.declared.state.ProxyLun.{ProxyLun}
use Rattle.paper.specs.declared.state.Row.{Row}
use Rattle.paper.specs.declared.state.Coordinator.{Coordinator}

-- a row with another LUN does not clash with an X row
clear_of_x : (q r : Row) → r.ground ≡ GroundX → eqb q.lun r.lun ≡ false → clashing q r ≡ false
unfolding clashing
clear_of_x q r g e = rw (e, g, Bool.and-false (is_taw q.ground))

module _ (c : Coordinator) (i n l : ℕ) (stands : standing c ≡ true) (inside : i < c.initiators.count) (passed : Assigns c i n l) where
  abbrev new : ProxyLun
  new = record { initiator = i; lun = head_of l; token = n }

  on : c.enabled ≡ true
  on = live_on c (stood c stands).off n passed.live

  -- the initiator has no proxy LUN there: it would be a row
  other : (q : ProxyLun) → q ∈ proxies_of c → same_proxy q new ≡ false
  other q m =
      ap (λ b. eqb q.initiator i && b) (head_is l passed.form q.lun)
      ∙ no_proxy_lem c i l on ((ruled c (stood c stands)).proxies.each q m).token passed.free m

  assigned_ruled : Ruled (applied c (proxying (assigned i l n)))
  unfolding applied
  assigned_ruled =
      let ps = proxies_of c in
      let r = (ruled c (stood c stands)).proxies in
      let ts = tokens_of c in
      let ruled_new : ProxyRuled c.initiators.count ts new = record { formed = rw (lun_whole l passed.form) passed.form; owner = lt-ltb _ _ inside; token = passed.live } in
      put_proxies c (ps ++ (new ∷ [])) (ruled c (stood c stands))
      (record {
        once = pairs_last same_proxy ps new ∙ rw (r.once, none_any (λ q. same_proxy q new) ps other);
        each = each_last (ProxyRuled c.initiators.count ts) ps new r.each ruled_new;
      })

  -- its row is the last; no other initiator has more rows
  abbrev after : Coordinator
  after = with_proxies c (proxies_of c ++ (new ∷ []))

  x_after : (j : ℕ) → proxy_rows after j ≡ proxy_rows c j ++ gather (row_of_proxy (tokens_of c)) (keep (owned_by j) (new ∷ []))
  unfolding proxy_rows
  x_after j =
      rw (proxies_with c (proxies_of c ++ (new ∷ [])), keep_append (owned_by j) (proxies_of c) (new ∷ []))
      (gather_append (row_of_proxy (tokens_of c)) (keep (owned_by j) (proxies_of c)) (keep (owned_by j) (new ∷ [])))

  rows_after_lem : (j : ℕ) → rows_of after j ≡ rows_of c j ++ gather (row_of_proxy (tokens_of c)) (keep (owned_by j) (new ∷ []))
  unfolding transport_rows
  rows_after_lem j =
      rows_on after j on
      ∙ rw (same_enrolment c after refl refl j (enrolment_of c j), x_after j, rows_on c j on)
      (simp append_assoc)

  clear : (j : ℕ) → clash_for c j ≡ false → clash_for after j ≡ false
  clear j h =
      split
      (eqb i j)
      (λ e.
      let t = some_there (token_for (tokens_of c) n) passed.live in
      let same : i ≡ j = eqb-true _ _ e in
      let free : any (has_lun l) (rows_of c j) ≡ false = subst (λ k. any (has_lun l) (rows_of c k) ≡ false) same passed.free in
      rw (rows_after_lem j, e, t.1)
      (pairs_last clashing (rows_of c j) (proxy_to new t.0)
      ∙ rw (h, none_any (λ q. clashing q (proxy_to new t.0)) (rows_of c j) (λ q m. clear_of_x q (proxy_to new t.0) refl (head_is l passed.form q.lun ∙ any_none (has_lun l) free m)))))
      (λ e. rw (rows_after_lem j, e, append-nil) h)

  assign_passed : standing (applied c (proxying (assigned i l n))) ≡ true
  unfolding applied empty_while_off
  assign_passed =
      let s = stood c stands in
      let k = counted c s.counts in
      stands_by after assigned_ruled
      (within after (proxies_within c (proxies_of c ++ (new ∷ [])) k (omega (arith, length-append (proxies_of c) (new ∷ []), proxies_counted c, passed.room))))
      (none_clash after (λ j m. clear j (clash_none c s.clashes j m)))
      s.off

pub assign_stands : (c : Coordinator) (i n l : ℕ) → standing c ≡ true → i < c.initiators.count → assign_tests c i n l ≡ passes → standing (applied c (proxying (assigned i l n))) ≡ true
assign_stands c i n l h k p = assign_passed c i n l h k (assigns c i n l p)
