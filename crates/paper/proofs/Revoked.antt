-- "A token's end ends its proxy LUNs for everybody.": after an end took effect, no X row of the history or of the list rests on a token that ended, for any initiator; and what ended does not come back by itself.
use Prim.Native.Nat.{ℕ}
use mathlib.Core.Path.{◌≡◌, refl, ap, sym, ◌∙◌, subst}
use mathlib.Core.Bool.{Bool, false}
use mathlib.Core.List.{List, [], ◌∷◌, ◌++◌}
use Rattle.std.specs.Prelude.{Option, Some, None}
use mathlib.Core.Logic.{◌⊎◌, inl, inr, ⊎_elim}
use lib.Dec.{eqb}
use borrow.Author.Tests.{eqb-true}
use Rattle.lists.specs.Lists.{◌∈◌, any}
use Rattle.lists.proofs.Tests.{split, none_not_some, or_false}
use Rattle.wire.specs.Lun.{lun_of}
use Rattle.paper.specs.Setup.{Setup}
use Rattle.paper.specs.Effects.{Ending, Effect, issued, ended, assigned, released, switched, keyed, granted, enrolling, tokening, proxying, ends}
use Rattle.paper.specs.Reports.{reach_rows}
use Rattle.paper.specs.Readings.{History, On, place_named, token_from, unless_ended, token, same_proxy_lun, proxy_token}
use Rattle.paper.proofs.Invariant.{Holds}
use Rattle.paper.proofs.ReachNames.{reach_names}
use Rattle.paper.specs.declared.state.Ground.TheVariants.{GroundX}
use Rattle.paper.specs.declared.state.Luacd.{Luacd}
use Rattle.paper.specs.declared.state.Token.{Token}
use Rattle.paper.specs.declared.state.Row.{Row}
use Rattle.paper.specs.declared.state.Coordinator.{Coordinator}

-- ---- what an end leaves of a token: one that did not end, as it was
left_unended : (e : Ending) (o : Option Token) (t : Token) → unless_ended e o ≡ Some t → ends e t ≡ false
left_unended e None t q = absurd (none_not_some q)
left_unended e (Some s) t q =
    split (ends e s)
    (λ p. absurd (none_not_some (rw p at q)))
    (λ p. let f : ◌≡◌ {A = Option Token} (Some s) (Some t) = rw p at q in let g : t ≡ s = cc in ap (ends e) g ∙ p)

left_same : (e : Ending) (o : Option Token) (t : Token) → unless_ended e o ≡ Some t → o ≡ Some t
left_same e None t q = q
left_same e (Some s) t q = split (ends e s) (λ p. absurd (none_not_some (rw p at q))) (λ p. rw p at q)

-- ---- "A token's end ends its proxy LUNs for everybody.": whatever token is behind any initiator's proxy LUN after an end, it is none that ended
pub ended_gone : (w : Setup) (h : History) (e : Ending) (i l : ℕ) (t : Token) → proxy_token w (tokening (ended e) ∷ h) i l ≡ Some t → ends e t ≡ false
unfolding proxy_token
ended_gone w h e i l t q = left_unended e (proxy_token w h i l) t q

-- nor does a number stand for a token that ended
pub ended_not_live : (w : Setup) (h : History) (e : Ending) (n : ℕ) (t : Token) → token w (tokening (ended e) ∷ h) n ≡ Some t → ends e t ≡ false
unfolding token
ended_not_live w h e n t q = left_unended e (token w h n) t q

-- ---- later effects
-- an effect that assigns this proxy LUN
abbrev pub assigns : ℕ → ℕ → Effect → Bool
assigns i l (switched s) = false
assigns i l (keyed k) = false
assigns i l (granted k id content x) = false
assigns i l (enrolling x) = false
assigns i l (tokening x) = false
assigns i l (proxying (assigned j m n)) = same_proxy_lun j m i l
assigns i l (proxying (released j m)) = false

-- an effect that issues this number
abbrev pub issues : ℕ → Effect → Bool
issues n (switched s) = false
issues n (keyed k) = false
issues n (granted k id content x) = false
issues n (enrolling x) = false
issues n (tokening (issued i l m)) = eqb m n
issues n (tokening (ended e)) = false
issues n (proxying x) = false

-- no effect but its assignment puts a token behind a proxy LUN
pub behind_before : (w : Setup) (h : History) (x : Effect) (i l : ℕ) (t : Token) → assigns i l x ≡ false → proxy_token w (x ∷ h) i l ≡ Some t → proxy_token w h i l ≡ Some t
unfolding proxy_token
behind_before w h (switched s) i l t a q = absurd (none_not_some q)
behind_before w h (keyed k) i l t a q = q
behind_before w h (granted k id content x) i l t a q = q
behind_before w h (enrolling x) i l t a q = q
behind_before w h (tokening (issued j m n)) i l t a q = q
behind_before w h (tokening (ended e)) i l t a q = left_same e (proxy_token w h i l) t q
behind_before w h (proxying (assigned j m n)) i l t a q = rw a at q
behind_before w h (proxying (released j m)) i l t a q =
    split (same_proxy_lun j m i l) (λ p. absurd (none_not_some (rw p at q))) (λ p. rw p at q)

-- no effect but its issue gives a number a token
pub live_before : (w : Setup) (h : History) (x : Effect) (n : ℕ) (t : Token) → issues n x ≡ false → token w (x ∷ h) n ≡ Some t → token w h n ≡ Some t
unfolding token
live_before w h (switched s) n t a q = absurd (none_not_some q)
live_before w h (keyed k) n t a q = q
live_before w h (granted k id content x) n t a q = q
live_before w h (enrolling x) n t a q = q
live_before w h (tokening (issued i l m)) n t a q = rw a at q
live_before w h (tokening (ended e)) n t a q = left_same e (token w h n) t q
live_before w h (proxying x) n t a q = q

-- so after any later effects, newest first
pub behind_since : (w : Setup) (h : History) (es : List Effect) (i l : ℕ) (t : Token) → any (assigns i l) es ≡ false → proxy_token w (es ++ h) i l ≡ Some t → proxy_token w h i l ≡ Some t
behind_since w h [] i l t a q = q
behind_since w h (x ∷ es) i l t a q =
    let (b, rest) = or_false (assigns i l x) (any (assigns i l) es) a in
    behind_since w h es i l t rest (behind_before w (es ++ h) x i l t b q)

pub live_since : (w : Setup) (h : History) (es : List Effect) (n : ℕ) (t : Token) → any (issues n) es ≡ false → token w (es ++ h) n ≡ Some t → token w h n ≡ Some t
live_since w h [] n t a q = q
live_since w h (x ∷ es) n t a q =
    let (b, rest) = or_false (issues n x) (any (issues n) es) a in
    live_since w h es n t rest (live_before w (es ++ h) x n t b q)

-- ---- a proxy LUN that ended does not come back by itself, nor with its number: "Each issue is a new token, even with a number used before." Among the later effects there may be issues of any number
pub not_back : (w : Setup) (h : History) (es : List Effect) (i l : ℕ) → any (assigns i l) es ≡ false → proxy_token w h i l ≡ None → proxy_token w (es ++ h) i l ≡ None
not_back w h es i l a q = go (proxy_token w (es ++ h) i l) refl
  where
    go : (o : Option Token) → proxy_token w (es ++ h) i l ≡ o → proxy_token w (es ++ h) i l ≡ None
    go None e = e
    go (Some t) e = absurd (none_not_some (sym q ∙ behind_since w h es i l t a e))

-- a number that stands for no token stands for none until it is issued
pub not_live_again : (w : Setup) (h : History) (es : List Effect) (n : ℕ) → any (issues n) es ≡ false → token w h n ≡ None → token w (es ++ h) n ≡ None
not_live_again w h es n a q = go (token w (es ++ h) n) refl
  where
    go : (o : Option Token) → token w (es ++ h) n ≡ o → token w (es ++ h) n ≡ None
    go None e = e
    go (Some t) e = absurd (none_not_some (sym q ∙ live_since w h es n t a e))

-- ---- a token has the number that stands for it
from_number : (i l n : ℕ) (p : Option Luacd) (t : Token) → token_from i l n p ≡ Some t → t.number ≡ n
from_number i l n None t q = absurd (none_not_some q)
from_number i l n (Some p) t q =
    let s : Token = record { number = n; unit = p.unit; requester = i; lun = _ } in
    let f : ◌≡◌ {A = Option Token} (Some s) (Some t) = q in
    let g : t ≡ s = cc in
    ap (λ x. x.number) g

pub number_of : (w : Setup) (h : History) (n : ℕ) (t : Token) → token w h n ≡ Some t → t.number ≡ n
unfolding token
number_of w [] n t q = absurd (none_not_some q)
number_of w (switched s ∷ h) n t q = absurd (none_not_some q)
number_of w (keyed k ∷ h) n t q = number_of w h n t q
number_of w (granted k id content x ∷ h) n t q = number_of w h n t q
number_of w (enrolling x ∷ h) n t q = number_of w h n t q
number_of w (tokening (issued i l m) ∷ h) n t q =
    let rest : token w h n ≡ Some t → t.number ≡ n = number_of w h n t in
    split (eqb m n) (λ p. from_number i l m (place_named w h i l) t (rw p at q) ∙ eqb-true m n p) (λ p. rest (rw p at q))
number_of w (tokening (ended e) ∷ h) n t q = number_of w h n t (left_same e (token w h n) t q)
number_of w (proxying x ∷ h) n t q = number_of w h n t q

-- ---- "Each issue is a new token": a token that an end names is live again, or behind a proxy LUN again, only if its number was issued since. Assignments alone bring none back
pub ended_not_live_since : (w : Setup) (h : History) (e : Ending) (es : List Effect) (n : ℕ) (t : Token) → any (issues n) es ≡ false → token w (es ++ (tokening (ended e) ∷ h)) n ≡ Some t → ends e t ≡ false
ended_not_live_since w h e es n t a q = ended_not_live w h e n t (live_since w (tokening (ended e) ∷ h) es n t a q)

-- what is behind a proxy LUN was so before the last effect, or was a live token then
behind_from : (w : Setup) (h : History) (x : Effect) (i l : ℕ) (t : Token) → proxy_token w (x ∷ h) i l ≡ Some t → (proxy_token w h i l ≡ Some t) ⊎ (token w h t.number ≡ Some t)
unfolding proxy_token
behind_from w h (switched s) i l t q = inl (behind_before w h (switched s) i l t refl q)
behind_from w h (keyed k) i l t q = inl q
behind_from w h (granted k id content x) i l t q = inl q
behind_from w h (enrolling x) i l t q = inl q
behind_from w h (tokening (issued j m n)) i l t q = inl q
behind_from w h (tokening (ended e)) i l t q = inl (behind_before w h (tokening (ended e)) i l t refl q)
behind_from w h (proxying (assigned j m n)) i l t q =
    split (same_proxy_lun j m i l)
    (λ p. let k : token w h n ≡ Some t = rw p at q in inr (subst (λ y. token w h y ≡ Some t) (sym (number_of w h n t k)) k))
    (λ p. inl (rw p at q))
behind_from w h (proxying (released j m)) i l t q = inl (behind_before w h (proxying (released j m)) i l t refl q)

pub ended_gone_since : (w : Setup) (h : History) (e : Ending) (es : List Effect) (i l : ℕ) (t : Token) → any (issues t.number) es ≡ false → proxy_token w (es ++ (tokening (ended e) ∷ h)) i l ≡ Some t → ends e t ≡ false
ended_gone_since w h e [] i l t a q = ended_gone w h e i l t q
ended_gone_since w h e (x ∷ es) i l t a q =
    let (b, rest) = or_false (issues t.number x) (any (issues t.number) es) a in
    ⊎_elim
    (ended_gone_since w h e es i l t rest)
    (ended_not_live_since w h e es t.number t rest)
    (behind_from w (es ++ (tokening (ended e) ∷ h)) x i l t q)

-- ---- in the list's terms
-- the token that an X row rests on: behind that initiator's proxy LUN, and for that unit
pub record RestsOn (w : Setup) (h : History) (r : Row) (t : Token) : Type 0 where
  pub behind : proxy_token w h r.initiator (lun_of r.lun) ≡ Some t
  pub unit : t.unit ≡ r.unit

pub x_rests : (w : Setup) (h : History) (c : Coordinator) → Holds w h c → (r : Row) → r ∈ reach_rows c → r.ground ≡ GroundX → (t : Token) × RestsOn w h r t
x_rests w h c holds r m g =
    let s = ((reach_names w h c holds).1 r).0 m in
    let (on, t, q, u) = subst (λ k. On w h k r.initiator r.lun r.unit) g s.ground in
    (t, record { behind = q; unit = u })

-- no X row of the list rests on a token that ended
pub none_rests : (w : Setup) (h : History) (c : Coordinator) (e : Ending) → Holds w (tokening (ended e) ∷ h) c → (r : Row) → r ∈ reach_rows c → r.ground ≡ GroundX → (t : Token) × RestsOn w (tokening (ended e) ∷ h) r t × (ends e t ≡ false)
none_rests w h c e holds r m g =
    let (t, k) = x_rests w (tokening (ended e) ∷ h) c holds r m g in
    (t, k, ended_gone w h e r.initiator (lun_of r.lun) t k.behind)

-- nor does one later, until the number was issued again
pub none_rests_since : (w : Setup) (h : History) (c : Coordinator) (e : Ending) (es : List Effect) → Holds w (es ++ (tokening (ended e) ∷ h)) c → (r : Row) → r ∈ reach_rows c → r.ground ≡ GroundX → (t : Token) × RestsOn w (es ++ (tokening (ended e) ∷ h)) r t × (any (issues t.number) es ≡ false → ends e t ≡ false)
none_rests_since w h c e es holds r m g =
    let (t, k) = x_rests w (es ++ (tokening (ended e) ∷ h)) c holds r m g in
    (t, k, λ a. ended_gone_since w h e es r.initiator (lun_of r.lun) t a k.behind)
