-- Counts: a table's list is no longer than its count, and stays within its size; while access controls are off nothing is counted.
use Prim.Native.Nat.{ℕ, ◌≤◌}
use mathlib.Core.Path.{◌≡◌, refl, ap}
use mathlib.Core.List.{List, []}
use mathlib.Core.Bool.{Bool, true, false, ◌&&◌, ◌||◌}
use native.Mathlib.Omega.{arith}
use lib.ListN.{length, take, length-take}
use lib.Dec.{eqb}
use borrow.Author.Tests.{eqb-true, eq-eqb, le-leb}
use Rattle.lists.specs.Lists.{is_some}
use Rattle.lists.proofs.Tests.{split, clashes, and_true}
use Rattle.paper.specs.Tables.{aces_of, tokens_of, proxies_of, with_tokens, with_proxies}
use Rattle.paper.specs.Rows.{token_for}
use Rattle.paper.specs.Standing.{within_sizes, empty_while_off}
use Rattle.paper.proofs.Stood.{Counted}
use Rattle.paper.specs.declared.state.Token.{Token}
use Rattle.paper.specs.declared.state.ProxyLun.{ProxyLun}
use Rattle.paper.specs.declared.state.Coordinator.{Coordinator}

-- ---- sizes
pub within : (c : Coordinator) → Counted c → within_sizes c ≡ true
unfolding within_sizes
within c h =
    rw (
      le-leb _ _ h.few_initiators,
      le-leb _ _ h.few_units,
      le-leb _ _ h.few_aces,
      h.luacds_few,
      le-leb _ _ h.few_tokens,
      le-leb _ _ h.few_proxies,
    )

pub tokens_counted : (c : Coordinator) → length (tokens_of c) ≤ c.tokens.count
tokens_counted c = omega (arith, length-take c.tokens.count c.tokens.items)

pub proxies_counted : (c : Coordinator) → length (proxies_of c) ≤ c.proxies.count
proxies_counted c = omega (arith, length-take c.proxies.count c.proxies.items)

-- as many tokens, or proxy LUNs, as there is room for
pub tokens_within : (c : Coordinator) (l : List Token) → Counted c → length l ≤ 32 → Counted (with_tokens c l)
tokens_within c l n h =
    record {
      few_initiators = n.few_initiators;
      few_units = n.few_units;
      few_aces = n.few_aces;
      luacds_few = n.luacds_few;
      few_tokens = h;
      few_proxies = n.few_proxies;
    }

pub proxies_within : (c : Coordinator) (l : List ProxyLun) → Counted c → length l ≤ 32 → Counted (with_proxies c l)
proxies_within c l n h =
    record {
      few_initiators = n.few_initiators;
      few_units = n.few_units;
      few_aces = n.few_aces;
      luacds_few = n.luacds_few;
      few_tokens = n.few_tokens;
      few_proxies = h;
    }

-- ---- while off
module _ (c : Coordinator) (empty : empty_while_off c ≡ true) where
  off_counts : c.enabled ≡ false → (c.acl.count ≡ 0) × (c.tokens.count ≡ 0)
  unfolding empty_while_off
  off_counts e =
      let p = and_true (eqb c.acl.count 0) _ (off c.enabled _ empty e) in
      (eqb-true _ _ p.0, eqb-true _ _ (and_true (eqb c.tokens.count 0) _ p.1).0)
    where
      off : (a b : Bool) → a || b ≡ true → a ≡ false → b ≡ true
      off true b h e = clashes refl e
      off false b h e = h

  pub off_aces : c.enabled ≡ false → aces_of c ≡ []
  off_aces e = ap (λ n. take n c.acl.items) (off_counts e).0

  pub off_tokens : c.enabled ≡ false → tokens_of c ≡ []
  off_tokens e = ap (λ n. take n c.tokens.items) (off_counts e).1

  -- so where a token is live, access controls are on
  pub live_on : (n : ℕ) → is_some (token_for (tokens_of c) n) ≡ true → c.enabled ≡ true
  unfolding token_for
  live_on n live =
      split c.enabled (λ e. e) (λ e. clashes live (ap (λ l. is_some (token_for l n)) (off_tokens e)))

  -- no more tokens than there were: none while off
  pub tokens_off : (l : List Token) → length l ≤ c.tokens.count → empty_while_off (with_tokens c l) ≡ true
  unfolding empty_while_off
  tokens_off l n =
      fewer c.enabled (eqb c.acl.count 0) (eqb c.tokens.count 0) (eqb (length l) 0) (eqb c.key 0)
      (λ e. eq-eqb (length l) 0 (omega (arith, eqb-true c.tokens.count 0 e)))
      empty
    where
      fewer : (a b t u k : Bool) → (t ≡ true → u ≡ true) → a || (b && (t && k)) ≡ true → a || (b && (u && k)) ≡ true
      fewer true b t u k f h = refl
      fewer false true true u k f h = rw (f refl) h
      fewer false true false u k f h = clashes h refl
      fewer false false t u k f h = clashes h refl

-- while on, anything may be there
pub on_holds : (c : Coordinator) → c.enabled ≡ true → empty_while_off c ≡ true
unfolding empty_while_off
on_holds c e = ap (λ b. b || (eqb c.acl.count 0 && (eqb c.tokens.count 0 && eqb c.key 0))) e
