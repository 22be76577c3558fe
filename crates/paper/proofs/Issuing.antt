-- REQUEST PROXY TOKEN alone issues a number, while access controls are on alone, and in a run a usable one alone. So a live token says that they are on, and its number is not issued again.
use Prim.Native.Nat.{ℕ}
use mathlib.Core.Path.{◌≡◌, refl, ap, sym, ◌∙◌, subst}
use mathlib.Core.Bool.{Bool, true, false, not}
use mathlib.Core.Bool as Bool
use mathlib.Core.List.{List, [], ◌∷◌}
use Rattle.std.specs.Prelude.{Some}
use lib.Dec.{eqb}
use borrow.Author.Tests.{not-true, eqb-true}
use Rattle.lists.specs.Lists.{any, is_some}
use Rattle.lists.proofs.Tests.{split, clashes, none_not_some, and_true, or_false}
use Rattle.paper.specs.Setup.{Setup}
use Rattle.paper.specs.Effects.{Effect, switched, keyed, granted, enrolling, tokening, proxying}
use Rattle.paper.specs.Orders.{Order, report_acl, request_token, manage_acl, disable, enroll, cancel, revoke, revoke_all, assign, release, no_action, Reading, wrong, order, reading_of}
use Rattle.paper.specs.InForce.{in_force, effects}
use Rattle.paper.specs.Commands.{passes, request_tests, tests}
use Rattle.paper.specs.Outcomes.{Decision, refuse, check, good, decide_command, outcome_of}
use Rattle.paper.specs.Readings.{History, is_on, token, usable}
use Rattle.paper.specs.Runs.{Statement, command, link, Entry, reading_effects, statement_effects, answered_effects, onto, took}
use Rattle.paper.proofs.Invariant.{Holds}
use Rattle.paper.proofs.Passed.{issues as found}
use Rattle.paper.proofs.Decided.{decided, command_told}
use Rattle.paper.proofs.Revoked.{issues, live_before}
use Rattle.paper.proofs.Revoking.{manage_no_issue}
use Rattle.paper.specs.declared.state.Token.{Token}
use Rattle.paper.specs.declared.state.Coordinator.{Coordinator}
use Rattle.paper.specs.declared.answers.Answer.{Answer}
use Rattle.paper.specs.declared.answers.Answer.TheVariants.{Good, Check, Refused}

-- ---- REQUEST PROXY TOKEN alone issues a number, the random number given with it
issues_only : (luns : List ℕ) (on : Bool) (i random n : ℕ) (o : Order) → any (issues n) (effects luns on i random o) ≡ true → (l : ℕ) × (o ≡ request_token l) × (random ≡ n)
unfolding effects
issues_only luns on i random n (report_acl key room) p = clashes p refl
issues_only luns on i random n (request_token l) p =
    (l, refl, eqb-true random n (sym (Bool.or-false (eqb random n)) ∙ p))
issues_only luns on i random n (manage_acl list) p = clashes p (manage_no_issue luns on list n)
issues_only luns on i random n (disable key) p = clashes p refl
issues_only luns on i random n (enroll id) p = clashes p refl
issues_only luns on i random n cancel p = clashes p refl
issues_only luns on i random n (revoke k) p = clashes p refl
issues_only luns on i random n (revoke_all l) p = clashes p refl
issues_only luns on i random n (assign k l) p = clashes p refl
issues_only luns on i random n (release l) p = clashes p refl
issues_only luns on i random n no_action p = clashes p refl

-- while access controls are off no order issues one
off_issues_none : (luns : List ℕ) (i random n : ℕ) (o : Order) → any (issues n) (effects luns false i random (in_force false o)) ≡ false
unfolding in_force effects
off_issues_none luns i random n (report_acl key room) = refl
off_issues_none luns i random n (request_token l) = refl
off_issues_none luns i random n (manage_acl list) = manage_no_issue luns false list n
off_issues_none luns i random n (disable key) = refl
off_issues_none luns i random n (enroll id) = refl
off_issues_none luns i random n cancel = refl
off_issues_none luns i random n (revoke k) = refl
off_issues_none luns i random n (revoke_all l) = refl
off_issues_none luns i random n (assign k l) = refl
off_issues_none luns i random n (release l) = refl
off_issues_none luns i random n no_action = refl

-- ---- a token is live while access controls are on, and no longer
abbrev LiveOn : Setup → History → ℕ → Type 0
LiveOn w h n = (t : Token) → token w h n ≡ Some t → is_on h ≡ true

-- an effect that does not issue the number keeps that
effect_on : (w : Setup) (h : History) (x : Effect) (n : ℕ) → issues n x ≡ false → LiveOn w h n → LiveOn w (x ∷ h) n
unfolding token is_on
effect_on w h (switched s) n a live t q = absurd (none_not_some q)
effect_on w h (keyed k) n a live t q = live t q
effect_on w h (granted k id content x) n a live t q = live t q
effect_on w h (enrolling x) n a live t q = live t q
effect_on w h (tokening x) n a live t q = live t (live_before w h (tokening x) n t a q)
effect_on w h (proxying x) n a live t q = live t q

effects_on : (w : Setup) (h : History) (es : List Effect) (n : ℕ) → any (issues n) es ≡ false → LiveOn w h n → LiveOn w (onto es h) n
unfolding onto
effects_on w h [] n a live = live
effects_on w h (x ∷ es) n a live =
    let (b, rest) = or_false (issues n x) (any (issues n) es) a in
    effects_on w (x ∷ h) es n rest (effect_on w h x n b live)

module _ (w : Setup) (h : History) (luns : List ℕ) (n : ℕ) (live : LiveOn w h n) where
  -- and its issue is in force while they are on
  order_on : (on : Bool) → is_on h ≡ on → (i random : ℕ) (o : Order) → LiveOn w (onto (effects luns on i random (in_force on o)) h) n
  unfolding in_force effects onto is_on
  order_on true on i random o t q =
      split (any (issues n) (effects luns true i random o))
      (λ p.
      let (l, request, number) = issues_only luns true i random n o p in
      subst (λ x. is_on (onto (effects luns true i random x) h) ≡ true) (sym request) on)
      (λ p. effects_on w h (effects luns true i random o) n p live t q)
  order_on false off i random o t q =
      effects_on w h (effects luns false i random (in_force false o)) n (off_issues_none luns i random n o) live t q

  reading_on : (on : Bool) → is_on h ≡ on → (i random : ℕ) (r : Reading) → LiveOn w (onto (reading_effects luns on i random r) h) n
  unfolding onto
  reading_on on e i random (wrong k) = live
  reading_on on e i random (order o) = order_on on e i random o

  statement_on : (on : Bool) → is_on h ≡ on → (s : Statement) → LiveOn w (onto (statement_effects luns on s) h) n
  unfolding statement_effects onto token is_on
  statement_on on e (command i cdb list random) = reading_on on e i random (reading_of cdb list)
  statement_on true e (link i) = live
  statement_on false e (link i) = live

  answered_on : (a : Answer) (s : Statement) → LiveOn w (onto (answered_effects a (statement_effects luns (is_on h) s)) h) n
  unfolding onto
  answered_on Good s = statement_on (is_on h) refl s
  answered_on (Check k) s = live
  answered_on (Refused k) s = live

-- so of every transcript, whatever its answers
pub live_on : (w : Setup) (xs : List Entry) (n : ℕ) (t : Token) → token w (took w xs) n ≡ Some t → is_on (took w xs) ≡ true
unfolding took token
live_on w [] n t q = absurd (none_not_some q)
live_on w (x ∷ xs) n t q = answered_on w (took w xs) w.luns n (live_on w xs n) x.answer x.statement t q

-- ---- "a usable number" is no live token's
usable_other : (w : Setup) (h : History) (m n : ℕ) (t : Token) → usable w h m ≡ true → token w h n ≡ Some t → m ≡ n → ⊥
usable_other w h m n t u q e =
    let (z, d) = and_true (not (eqb m 0)) (not (is_some (token w h m))) u in
    clashes (ap is_some (ap (token w h) e ∙ q)) (not-true (is_some (token w h m)) d)

-- ---- what a statement is decided to be issues no live token's number
module _ (w : Setup) (h : History) (c : Coordinator) (holds : Holds w h c) (n : ℕ) (t : Token) (live : token w h n ≡ Some t) where
  -- REQUEST PROXY TOKEN passes its tests with a usable number alone
  passed_usable : (i l random : ℕ) → request_tests c i l random ≡ passes → usable w h random ≡ true
  passed_usable i l random e =
      let p = found c i l random e in
      let new : is_some (token w h random) ≡ false = ap is_some (sym (holds.agrees.tokens random)) ∙ p.new in
      rw (p.number, new)

  order_new : (luns : List ℕ) (on : Bool) (i random : ℕ) (o : Order) → tests c i random o ≡ passes → any (issues n) (effects luns on i random o) ≡ false
  unfolding tests
  order_new luns on i random o e =
      split (any (issues n) (effects luns on i random o))
      (λ p.
      let (l, request, number) = issues_only luns on i random n o p in
      let passed : request_tests c i l random ≡ passes = subst (λ x. tests c i random x ≡ passes) request e in
      absurd (usable_other w h random n t (passed_usable i l random passed) live number))
      (λ p. p)

  pub command_new : (i : ℕ) (cdb list : List ℕ) (random room : ℕ) (d : Decision) → decide_command c i cdb list random room ≡ d → any (issues n) (answered_effects (outcome_of c d).answer (statement_effects w.luns (is_on h) (command i cdb list random))) ≡ false
  command_new i cdb list random room (refuse k) e = refl
  command_new i cdb list random room (check k) e = refl
  command_new i cdb list random room (good es bytes) e =
      let d = decided c i cdb list random room e in
      ap (any (issues n)) (command_told w h c holds.agrees i cdb list random room e ∙ sym d.took)
      ∙ order_new _ c.enabled i random (in_force c.enabled d.asked) d.passed

-- a link event issues none, whatever its answer
pub link_new : (luns : List ℕ) (on : Bool) (n i : ℕ) (a : Answer) → any (issues n) (answered_effects a (statement_effects luns on (link i))) ≡ false
unfolding statement_effects
link_new luns true n i Good = refl
link_new luns false n i Good = refl
link_new luns on n i (Check k) = refl
link_new luns on n i (Refused k) = refl
