-- One table changes and the others stay: what the new table must keep for the standing rules between effects to hold.
use mathlib.Core.Path.{◌≡◌, refl, ap, sym, ◌∙◌, subst}
use mathlib.Core.List.{List, map}
use mathlib.Core.Bool.{true}
use lib.ListN.{length}
use Rattle.lists.specs.Lists.{◌∈◌, is_some}
use Rattle.lists.proofs.Members.{from_map}
use Rattle.paper.specs.Contents.{Enrolment, not_enrolled, enrolled, pending}
use Rattle.paper.specs.Tables.{enrolments_of, aces_of, tokens_of, proxies_of, with_tokens, with_proxies, with_enrolments}
use Rattle.paper.specs.Standing.{setup_kept, generation_right}
use Rattle.paper.proofs.Getters.{tokens_with, proxies_with, settled, enrolments_with}
use Rattle.paper.proofs.SameId.{ace_kept}
use Rattle.paper.proofs.Ruled.{Ruled, TokensRuled, ProxiesRuled, refers_to, EnrolmentsRuled}
use Rattle.paper.specs.declared.state.IdType.TheVariants.{AccessId}
use Rattle.paper.specs.declared.state.Ace.{Ace}
use Rattle.paper.specs.declared.state.Token.{Token}
use Rattle.paper.specs.declared.state.ProxyLun.{ProxyLun}
use Rattle.paper.specs.declared.state.Coordinator.{Coordinator}

-- ---- other proxy LUNs
pub put_proxies : (c : Coordinator) (ps : List ProxyLun) → Ruled c → ProxiesRuled c.initiators.count (tokens_of c) ps → Ruled (with_proxies c ps)
unfolding setup_kept generation_right
put_proxies c ps r p =
    record {
      setup = r.setup;
      generation = r.generation;
      aces = r.aces;
      tokens = r.tokens;
      proxies = subst (ProxiesRuled c.initiators.count (tokens_of c)) (sym (proxies_with c ps)) p;
      enrolments = r.enrolments;
    }

-- ---- other tokens: the proxy LUNs' must be there still
pub put_tokens : (c : Coordinator) (ts : List Token) → Ruled c → TokensRuled c.units.count c.initiators.count ts → ProxiesRuled c.initiators.count ts (proxies_of c) → Ruled (with_tokens c ts)
unfolding setup_kept generation_right
put_tokens c ts r t p =
    record {
      setup = r.setup;
      generation = r.generation;
      aces = r.aces;
      tokens = subst (TokensRuled c.units.count c.initiators.count) (sym (tokens_with c ts)) t;
      proxies = subst (λ l. ProxiesRuled c.initiators.count l (proxies_of c)) (sym (tokens_with c ts)) p;
      enrolments = r.enrolments;
    }

-- ---- other enrolments: stored with their AccessIDs as kept, by which the same ACE is found
pub settled_refers : (aces : List Ace) (x : Enrolment) → refers_to aces (settled x) ≡ refers_to aces x
settled_refers aces not_enrolled = refl
settled_refers aces (enrolled id) = ap is_some (ace_kept aces AccessId id)
settled_refers aces (pending id) = ap is_some (ace_kept aces AccessId id)

pub enrolments_put : (c : Coordinator) (aces : List Ace) (es : List Enrolment) → length es ≡ c.initiators.count → EnrolmentsRuled aces es → EnrolmentsRuled aces (enrolments_of (with_enrolments c es))
enrolments_put c aces es e r x h =
    let m = from_map settled es (subst (λ l. x ∈ l) (enrolments_with c es e) h) in
    ap (refers_to aces) m.2 ∙ settled_refers aces m.0 ∙ r m.0 m.1

-- each enrolment becomes another, which finds its ACE
pub enrolments_by : (aces : List Ace) (f : Enrolment → Enrolment) (es : List Enrolment) → ((x : Enrolment) → x ∈ es → refers_to aces (f x) ≡ true) → EnrolmentsRuled aces (map f es)
enrolments_by aces f es r x h = let m = from_map f es h in ap (refers_to aces) m.2 ∙ r m.0 m.1

pub put_enrolments : (c : Coordinator) (es : List Enrolment) → Ruled c → length es ≡ c.initiators.count → EnrolmentsRuled (aces_of c) es → Ruled (with_enrolments c es)
unfolding setup_kept generation_right
put_enrolments c es r n e =
    record {
      setup = r.setup;
      generation = r.generation;
      aces = r.aces;
      tokens = r.tokens;
      proxies = r.proxies;
      enrolments = enrolments_put c (aces_of c) es n e;
    }
