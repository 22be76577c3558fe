-- REQUEST PROXY TOKEN keeps the standing rules: it changes no row, since the new token's number is no live token's; and a T or A row has a unit that is there and a LUN of the form.
use Prim.Native.Nat.{ℕ, ◌<◌}
use mathlib.Core.Path.{◌≡◌, refl, ap, sym, ◌∙◌, subst}
use mathlib.Core.List.{[], ◌∷◌, ◌++◌}
use Rattle.std.specs.Prelude.{Some}
use mathlib.Core.Bool.{true, false, ◌&&◌}
use native.Mathlib.Omega.{arith}
use lib.ListN.{length-append}
use borrow.Author.Tests.{eqb-true, lt-ltb}
use Rattle.lists.specs.Lists.{◌∈◌, keep, is_some}
use Rattle.lists.proofs.Tests.{split, clashes, and_true}
use Rattle.lists.proofs.Members.{from_keep, find_in, find_any, pairs_last}
use Rattle.wire.specs.Lun.{lun_of, head_of}
use Rattle.paper.specs.Grounds.{is_ta}
use Rattle.paper.specs.Contents.{all_units}
use Rattle.paper.specs.Tables.{units_of, enrolment_of, tokens_of, proxies_of, with_tokens}
use Rattle.paper.specs.Rows.{has_number, token_for, proxy_row, row_of_proxy, owned_by, transport_rows, proxy_rows, open_rows, rows_of, clashing, has_lun, row_with}
use Rattle.paper.specs.Standing.{same_token, standing}
use Rattle.paper.specs.Effects.{issued, tokening}
use Rattle.paper.specs.Applied.{unit_in, issued_token, applied}
use Rattle.paper.specs.Commands.{passes, request_tests}
use Rattle.paper.proofs.Getters.{tokens_with}
use Rattle.paper.proofs.Stood.{stood, counted}
use Rattle.paper.proofs.Ruled.{Ruled, ruled, stands_by, TokenRuled}
use Rattle.paper.proofs.FewerRows.{Fewer, some_all, fewer_rows, some_rows, same_enrolment}
use Rattle.paper.proofs.TokensAfter.{found_before}
use Rattle.paper.proofs.Counts.{within, tokens_counted, tokens_within, on_holds}
use Rattle.paper.proofs.TablesStand.{put_tokens}
use Rattle.paper.proofs.GroundRows.{rows_off, from_rows_at}
use Rattle.paper.proofs.OwnRows.{rows_own}
use Rattle.paper.proofs.Luns.{small_formed}
use Rattle.paper.proofs.ListLaws.{some_there, each_last, gather_same}
use Rattle.paper.proofs.Passed.{Issues, issues}
use Rattle.paper.specs.declared.state.Ground.TheVariants.{GroundO}
use Rattle.paper.specs.declared.state.Token.{Token}
use Rattle.paper.specs.declared.state.ProxyLun.{ProxyLun}
use Rattle.paper.specs.declared.state.Row.{Row}
use Rattle.paper.specs.declared.state.Coordinator.{Coordinator}

-- ---- one token more
module _ (c : Coordinator) (i l n : ℕ) (stands : standing c ≡ true) (inside : i < c.initiators.count) (passed : Issues c i l n) where
  abbrev new : Token
  new = issued_token c i l n

  -- the row that the LUN opens by
  opening : (r : Row) × (row_with is_ta l (rows_of c i) ≡ Some r) × (r ∈ rows_of c i) × (is_ta r.ground ≡ true) × (lun_of r.lun ≡ l)
  unfolding row_with
  opening =
      let (r, e) = some_there (row_with is_ta l (rows_of c i)) passed.opens in
      let (m, test) = find_in (λ q. is_ta q.ground && has_lun l q) (rows_of c i) e in
      let (ground, lun) = and_true (is_ta r.ground) (has_lun l r) test in
      (r, e, m, ground, eqb-true (lun_of r.lun) l lun)

  ruled_new : TokenRuled c.units.count c.initiators.count new
  ruled_new =
      let (r, e, m, ground, lun) = opening in
      let own = rows_own c (stood c stands) i m in
      let head : head_of l ≡ r.lun = omega arith in
      let there : unit_in (row_with is_ta l (rows_of c i)) < c.units.count = rw e own.2 in
      record {
        formed = rw head (small_formed r.lun own.1);
        number = rw passed.number;
        placed = rw (lt-ltb _ _ there, lt-ltb _ _ inside);
      }

  -- while off no row is T or A
  on : c.enabled ≡ true
  unfolding open_rows
  on =
      let (r, e, m, ground, lun) = opening in
      split
      c.enabled
      (λ k. k)
      (λ k.
      clashes ground (from_rows_at (λ q. is_ta q.ground ≡ false) i GroundO (all_units (units_of c)) (λ p h. refl) (subst (λ rs. r ∈ rs) (rows_off c i k) m)))

  -- a proxy LUN's token is found as before
  found : (p : ProxyLun) → p ∈ proxies_of c → token_for (tokens_of c ++ (new ∷ [])) p.token ≡ token_for (tokens_of c) p.token
  found p m = found_before (tokens_of c) new p.token ((ruled c (stood c stands)).proxies.each p m).token

  issued_ruled : Ruled (applied c (tokening (issued i l n)))
  unfolding applied token_for
  issued_ruled =
      let ts = tokens_of c in
      let r = ruled c (stood c stands) in
      put_tokens c (ts ++ (new ∷ [])) (ruled c (stood c stands))
      (record {
        once = pairs_last same_token ts new ∙ rw r.tokens.once (sym (find_any (has_number n) ts) ∙ passed.new);
        each = each_last (TokenRuled c.units.count c.initiators.count) ts new r.tokens.each ruled_new;
      })
      (record {
        once = r.proxies.once;
        each = λ p m.
            let q = r.proxies.each p m in
            record { formed = q.formed; owner = q.owner; token = ap is_some (found p m) ∙ q.token };
      })

  abbrev after : Coordinator
  after = with_tokens c (tokens_of c ++ (new ∷ []))

  -- each proxy LUN has the row that it had
  x_after : (j : ℕ) → proxy_rows after j ≡ proxy_rows c j
  unfolding proxy_rows
  x_after j =
      rw (tokens_with c (tokens_of c ++ (new ∷ [])))
      (gather_same (row_of_proxy (tokens_of c ++ (new ∷ []))) (row_of_proxy (tokens_of c)) (keep (owned_by j) (proxies_of c)) (λ p m. ap (proxy_row p) (found p (from_keep (owned_by j) (proxies_of c) m).0)))

  rows_after_lem : (j : ℕ) → Fewer clashing (rows_of after j) (rows_of c j)
  unfolding transport_rows open_rows
  rows_after_lem j =
      some_rows c after j refl refl (some_all clashing (transport_rows c j))
      (rw (same_enrolment c after refl refl j (enrolment_of c j)) (some_all clashing _))
      (rw (x_after j) (some_all clashing _))

  request_passed : standing (applied c (tokening (issued i l n))) ≡ true
  unfolding applied
  request_passed =
      let s = stood c stands in
      let k = counted c s.counts in
      stands_by after issued_ruled
      (within after (tokens_within c (tokens_of c ++ (new ∷ [])) k (omega (arith, length-append (tokens_of c) (new ∷ []), tokens_counted c, passed.room))))
      (fewer_rows c after refl (λ j m. rows_after_lem j) s.clashes)
      (on_holds after on)

pub request_stands : (c : Coordinator) (i l random : ℕ) → standing c ≡ true → i < c.initiators.count → request_tests c i l random ≡ passes → standing (applied c (tokening (issued i l random))) ≡ true
request_stands c i l random h k p = request_passed c i l random h k (issues c i l random p)
