-- The end of tokens keeps the standing rules: a proxy LUN is kept exactly if its token outlives the end, so it still finds that token and has the row that it had.
use Prim.Native.Nat.{ℕ, ◌≤◌}
use mathlib.Core.Path.{◌≡◌, refl, sym, ◌∙◌, subst}
use mathlib.Core.List.{List, []}
use Rattle.std.specs.Prelude.{Option, Some, None}
use mathlib.Core.Bool.{Bool, true, false}
use native.Mathlib.Omega.{arith}
use lib.ListN.{length}
use borrow.Author.Tests.{eqb-true, eq-eqb, not-true}
use Rattle.lists.specs.Lists.{keep, pairs}
use Rattle.lists.proofs.Tests.{split}
use Rattle.lists.proofs.Members.{Once, only, from_keep, find_keep, once_pairs, pairs_keep, length_keep}
use Rattle.paper.specs.Tables.{tokens_of, proxies_of, enrolment_of, with_tokens, with_proxies}
use Rattle.paper.specs.Rows.{has_number, token_for, proxy_row, row_of_proxy, owned_by, transport_rows, proxy_rows, open_rows, clashing}
use Rattle.paper.specs.Standing.{setup_kept, generation_right, same_token, same_proxy, empty_while_off, standing}
use Rattle.paper.specs.Effects.{Ending, ended, tokening, outlives}
use Rattle.paper.specs.Applied.{kept_by, applied}
use Rattle.paper.proofs.TokensAfter.{still_live}
use Rattle.paper.proofs.Getters.{tokens_with, proxies_with}
use Rattle.paper.proofs.Ruled.{Ruled, ruled, stands_by, TokensRuled, ProxiesRuled}
use Rattle.paper.proofs.Stood.{stood, counted}
use Rattle.paper.proofs.FewerRows.{Fewer, some_all, some_none, some_gather, fewer_rows, some_rows, same_enrolment}
use Rattle.paper.proofs.Counts.{within, tokens_counted, proxies_counted, tokens_within, proxies_within, tokens_off}
use Rattle.paper.specs.declared.state.Token.{Token}
use Rattle.paper.specs.declared.state.ProxyLun.{ProxyLun}
use Rattle.paper.specs.declared.state.Coordinator.{Coordinator}

-- ---- tokens differ in their numbers, so that a number finds the same token after a removal, if it is left
numbers_once : (ts : List Token) (n : ℕ) → pairs same_token ts ≡ false → Once (has_number n) ts
numbers_once ts n h =
    once_pairs (has_number n) same_token ts (λ t s e f. eq-eqb t.number s.number (eqb-true _ _ e ∙ sym (eqb-true _ _ f))) h

-- ---- the tables after an end
pub ended_ruled : (c : Coordinator) (e : Ending) → Ruled c → Ruled (applied c (tokening (ended e)))
unfolding applied setup_kept generation_right
ended_ruled c e r =
    let ts = tokens_of c in
    let ps = proxies_of c in
    let left = keep (outlives e) ts in
    let kept = keep (kept_by e ts) ps in
    let rests : ProxiesRuled c.initiators.count left kept = record {
      once = pairs_keep same_proxy (kept_by e ts) ps r.proxies.once;
      each = λ p h.
          let k = from_keep (kept_by e ts) ps h in
          let q = r.proxies.each p k.0 in
          record {
            formed = q.formed;
            owner = q.owner;
            token = still_live e ts p.token (numbers_once ts p.token r.tokens.once) q.token (not-true _ k.1);
          };
    } in
    record {
      setup = r.setup;
      generation = r.generation;
      aces = r.aces;
      tokens = subst (TokensRuled c.units.count c.initiators.count) (sym (tokens_with c left)) (record { once = pairs_keep same_token (outlives e) ts r.tokens.once; each = λ t h. r.tokens.each t (from_keep (outlives e) ts h).0 });
      proxies = subst
          (λ l. ProxiesRuled c.initiators.count l (proxies_of (applied c (tokening (ended e)))))
          (sym (tokens_with c left))
          (subst (ProxiesRuled c.initiators.count left) (sym (proxies_with c kept)) rests);
      enrolments = r.enrolments;
    }

-- ---- after some tokens' end a proxy LUN has the row that it had, or none
fewer_row : (ts : List Token) (q : Token → Bool) (p : ProxyLun) → Once (has_number p.token) ts → Fewer clashing (row_of_proxy (keep q ts) p) (row_of_proxy ts p)
unfolding token_for
fewer_row ts q p o = rw (find_keep (has_number p.token) q ts o) (go (token_for ts p.token))
  where
    go : (t : Option Token) → Fewer clashing (proxy_row p (only q t)) (proxy_row p t)
    go None = some_all clashing []
    go (Some t) = split (q t) (λ e. rw e (some_all clashing _)) (λ e. rw e (some_none clashing _))

-- ---- the kept lists are no longer, and the rows are some of those before
module _ (c : Coordinator) (e : Ending) where
  ended_x : pairs same_token (tokens_of c) ≡ false → (i : ℕ) → Fewer clashing (proxy_rows (applied c (tokening (ended e))) i) (proxy_rows c i)
  unfolding proxy_rows applied
  ended_x h i =
      let ts = tokens_of c in
      let us = keep (outlives e) ts in
      let q = kept_by e ts in
      rw (tokens_with c us, proxies_with (with_tokens c us) (keep q (proxies_of c)))
      (some_gather clashing (row_of_proxy us) (row_of_proxy ts) (owned_by i) q (λ p. fewer_row ts (outlives e) p (numbers_once ts p.token h)) (proxies_of c))

  pub ended_stands : standing c ≡ true → standing (applied c (tokening (ended e))) ≡ true
  unfolding transport_rows open_rows empty_while_off applied
  ended_stands h =
      let s = stood c h in
      let n = counted c s.counts in
      let ts = keep (outlives e) (tokens_of c) in
      let ps = keep (kept_by e (tokens_of c)) (proxies_of c) in
      let fewer : length ts ≤ c.tokens.count = omega (arith, length_keep (outlives e) (tokens_of c), tokens_counted c) in
      let d = with_proxies (with_tokens c ts) ps in
      stands_by d (ended_ruled c e (ruled c (stood c h)))
      (within d (proxies_within (with_tokens c ts) ps (tokens_within c ts n (omega (arith, n.few_tokens))) (omega (arith, length_keep (kept_by e (tokens_of c)) (proxies_of c), proxies_counted c, n.few_proxies))))
      (fewer_rows c d refl (λ i k. some_rows c d i refl refl (some_all clashing (transport_rows c i)) (rw (same_enrolment c d refl refl i (enrolment_of c i)) (some_all clashing _)) (ended_x (ruled c (stood c h)).tokens.once i)) s.clashes)
      (tokens_off c s.off ts fewer)
