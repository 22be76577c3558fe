-- The standing rules but for sizes, clashes and what is empty while off, table by table: what they say of one table, and of which other tables. An effect that leaves a table alone leaves its rules alone. They hold between the effects of one statement too, where a list may pass 32 ACEs on the way or clash before its end.
use Prim.Native.Nat.{ℕ}
use mathlib.Core.Path.{◌≡◌, refl, sym, ◌∙◌}
use mathlib.Core.List.{List}
use mathlib.Core.Bool.{Bool, true, false, not, ◌&&◌}
use lib.Dec.{ltb}
use borrow.Author.Tests.{not-true}
use Rattle.lists.specs.Lists.{◌∈◌, all, pairs, is_some}
use Rattle.lists.proofs.Tests.{and_true}
use Rattle.lists.proofs.Members.{all_in, in_all}
use Rattle.paper.specs.Contents.{Enrolment, not_enrolled, enrolled, pending}
use Rattle.paper.specs.Tables.{aces_of, tokens_of, proxies_of, enrolments_of}
use Rattle.paper.specs.Rows.{ace_for, token_for}
use Rattle.paper.specs.Standing.{setup_kept, within_sizes, no_clash, empty_while_off, standing, identifiers_once, present_once, luacds_once, lists_filled, well_formed, tokens_nonzero, references_there, generation_right, same_ace, same_token, same_proxy, luacds_of, once_listed, holds_some, ace_formed, token_formed, proxy_formed, nonzero, ace_refers, token_refers, proxy_refers, enrolment_refers}
use Rattle.paper.proofs.Stood.{Stood}
use Rattle.paper.specs.declared.state.IdType.TheVariants.{AccessId}
use Rattle.paper.specs.declared.state.Ace.{Ace}
use Rattle.paper.specs.declared.state.Luacd.{Luacd}
use Rattle.paper.specs.declared.state.Token.{Token}
use Rattle.paper.specs.declared.state.ProxyLun.{ProxyLun}
use Rattle.paper.specs.declared.state.Coordinator.{Coordinator}

-- ---- ACEs, where there are so many units
abbrev pub unit_below : ℕ → Luacd → Bool
unit_below units p = ltb p.unit units

pub record AceRuled (units : ℕ) (a : Ace) : Type 0 where
  pub once : once_listed a ≡ true
  pub filled : holds_some a ≡ true
  pub formed : ace_formed a ≡ true
  pub placed : all (unit_below units) (luacds_of a) ≡ true

pub record AcesRuled (units : ℕ) (aces : List Ace) : Type 0 where
  pub once : pairs same_ace aces ≡ false
  pub each : (a : Ace) → a ∈ aces → AceRuled units a

-- ---- tokens
pub record TokenRuled (units initiators : ℕ) (t : Token) : Type 0 where
  pub formed : token_formed t ≡ true
  pub number : nonzero t ≡ true
  pub placed : ltb t.unit units && ltb t.requester initiators ≡ true

pub record TokensRuled (units initiators : ℕ) (ts : List Token) : Type 0 where
  pub once : pairs same_token ts ≡ false
  pub each : (t : Token) → t ∈ ts → TokenRuled units initiators t

-- ---- proxy LUNs, which rest on tokens
pub record ProxyRuled (initiators : ℕ) (ts : List Token) (p : ProxyLun) : Type 0 where
  pub formed : proxy_formed p ≡ true
  pub owner : ltb p.initiator initiators ≡ true
  pub token : is_some (token_for ts p.token) ≡ true

pub record ProxiesRuled (initiators : ℕ) (ts : List Token) (ps : List ProxyLun) : Type 0 where
  pub once : pairs same_proxy ps ≡ false
  pub each : (p : ProxyLun) → p ∈ ps → ProxyRuled initiators ts p

-- ---- enrolments, which rest on ACEs
abbrev pub refers_to : List Ace → Enrolment → Bool
refers_to aces not_enrolled = true
refers_to aces (enrolled id) = is_some (ace_for aces AccessId id)
refers_to aces (pending id) = is_some (ace_for aces AccessId id)

abbrev pub EnrolmentsRuled : List Ace → List Enrolment → Type 0
EnrolmentsRuled aces es = (x : Enrolment) → x ∈ es → refers_to aces x ≡ true

refers_to_lem : (c : Coordinator) (x : Enrolment) → enrolment_refers c x ≡ refers_to (aces_of c) x
refers_to_lem c not_enrolled = refl
refers_to_lem c (enrolled id) = refl
refers_to_lem c (pending id) = refl

-- ---- all of it
pub record Ruled (c : Coordinator) : Type 0 where
  pub setup : setup_kept c ≡ true
  pub generation : generation_right c ≡ true
  pub aces : AcesRuled c.units.count (aces_of c)
  pub tokens : TokensRuled c.units.count c.initiators.count (tokens_of c)
  pub proxies : ProxiesRuled c.initiators.count (tokens_of c) (proxies_of c)
  pub enrolments : EnrolmentsRuled (aces_of c) (enrolments_of c)

-- what the rules give, table by table
pub ruled : (c : Coordinator) → Stood c → Ruled c
unfolding identifiers_once present_once luacds_once lists_filled well_formed tokens_nonzero references_there
ruled c s =
    let present = and_true (not (pairs same_token (tokens_of c))) _ s.proxies in
    let forms = and_true (all ace_formed (aces_of c)) _ s.forms in
    let rest = and_true (all token_formed (tokens_of c)) _ forms.1 in
    let aces = and_true (all (ace_refers c) (aces_of c)) _ s.references in
    let tokens = and_true (all (token_refers c) (tokens_of c)) _ aces.1 in
    let proxies = and_true (all (proxy_refers c) (proxies_of c)) _ tokens.1 in
    let behind : (p : ProxyLun) → p ∈ proxies_of c → (ltb p.initiator c.initiators.count ≡ true) × (is_some (token_for (tokens_of c) p.token) ≡ true) =
    λ p h. and_true (ltb p.initiator c.initiators.count) _ (all_in (proxy_refers c) proxies.0 h) in
    record {
      setup = s.setup;
      generation = s.generation;
      aces = record {
        once = not-true _ s.identifiers;
        each = λ a h. record {
          once = all_in once_listed s.luacds h;
          filled = all_in holds_some s.lists h;
          formed = all_in ace_formed forms.0 h;
          placed = all_in (ace_refers c) aces.0 h;
        };
      };
      tokens = record {
        once = not-true _ present.0;
        each = λ t h. record {
          formed = all_in token_formed rest.0 h;
          number = all_in nonzero s.tokens h;
          placed = all_in (token_refers c) tokens.0 h;
        };
      };
      proxies = record {
        once = not-true _ present.1;
        each = λ p h. record {
          formed = all_in proxy_formed rest.1 h;
          owner = (behind p h).0;
          token = (behind p h).1;
        };
      };
      enrolments = λ x h. sym (refers_to_lem c x) ∙ all_in (enrolment_refers c) proxies.1 h;
    }

-- with sizes, clashes and what is empty while off, that is all
pub stands_by : (c : Coordinator) → Ruled c → within_sizes c ≡ true → no_clash c ≡ true → empty_while_off c ≡ true → standing c ≡ true
unfolding standing identifiers_once present_once luacds_once lists_filled well_formed tokens_nonzero references_there
stands_by c r sizes clashes off =
    rw (
      r.setup,
      sizes,
      r.aces.once,
      r.tokens.once,
      r.proxies.once,
      in_all once_listed (aces_of c) (λ a h. (r.aces.each a h).once),
      in_all holds_some (aces_of c) (λ a h. (r.aces.each a h).filled),
      in_all ace_formed (aces_of c) (λ a h. (r.aces.each a h).formed),
      in_all token_formed (tokens_of c) (λ t h. (r.tokens.each t h).formed),
      in_all proxy_formed (proxies_of c) (λ p h. (r.proxies.each p h).formed),
      in_all nonzero (tokens_of c) (λ t h. (r.tokens.each t h).number),
      in_all (ace_refers c) (aces_of c) (λ a h. (r.aces.each a h).placed),
      in_all (token_refers c) (tokens_of c) (λ t h. (r.tokens.each t h).placed),
      in_all (proxy_refers c) (proxies_of c) (λ p h. rw (r.proxies.each p h).owner (r.proxies.each p h).token),
      in_all (enrolment_refers c) (enrolments_of c) (λ x h. refers_to_lem c x ∙ r.enrolments x h),
      clashes,
      r.generation,
      off,
    )
