-- Tokens and proxy LUNs after each effect, by the tables: what a number stands for, and the token behind a proxy LUN.
use Prim.Native.Nat.{ℕ}
use mathlib.Core.Path.{◌≡◌, refl, ap, ap₂, sym, ◌∙◌}
use mathlib.Core.List.{List, [], ◌∷◌, ◌++◌}
use Rattle.std.specs.Prelude.{Option, Some, None}
use mathlib.Core.Bool.{Bool, true, false, cond, not, ◌&&◌}
use lib.Dec.{eqb}
use borrow.Author.Tests.{eqb-true}
use Rattle.lists.specs.Lists.{◌∈◌, find, keep, is_some}
use Rattle.lists.proofs.Tests.{split, and_true, eqb_sym}
use Rattle.lists.proofs.Members.{Once, only, find_in, find_any, find_append, find_keep, find_put}
use Rattle.wire.specs.Lun.{lun_of, head_of}
use Rattle.paper.specs.Rows.{has_number, token_for}
use Rattle.paper.specs.Effects.{Ending, ends, outlives}
use Rattle.paper.specs.Applied.{ends_some, rests_on_ended, kept_by, is_proxy, other_proxy}
use Rattle.paper.specs.Readings.{unless_ended, same_proxy_lun}
use Rattle.paper.proofs.Invariant.{token_behind}
use Rattle.paper.specs.declared.state.Token.{Token}
use Rattle.paper.specs.declared.state.ProxyLun.{ProxyLun}

-- ---- an ending
only_left : (e : Ending) (o : Option Token) → only (outlives e) o ≡ unless_ended e o
only_left e None = refl
only_left e (Some t) = split (ends e t) (λ q. rw q) (λ q. rw q)

pub token_ended : (e : Ending) (ts : List Token) (n : ℕ) → Once (has_number n) ts → token_for (keep (outlives e) ts) n ≡ unless_ended e (token_for ts n)
unfolding token_for
token_ended e ts n once = find_keep (has_number n) (outlives e) ts once ∙ only_left e (find (has_number n) ts)

-- a token that does not end is there after the ending
pub still_live : (e : Ending) (ts : List Token) (n : ℕ) → Once (has_number n) ts → is_some (token_for ts n) ≡ true → ends_some e (token_for ts n) ≡ false → is_some (token_for (keep (outlives e) ts) n) ≡ true
still_live e ts n once s k = ap is_some (token_ended e ts n once) ∙ outlived (token_for ts n) s k
  where
    outlived : (o : Option Token) → is_some o ≡ true → ends_some e o ≡ false → is_some (unless_ended e o) ≡ true
    outlived None s q = s
    outlived (Some t) s q = rw q

unless_ended_lem : (e : Ending) (o : Option Token) → ends_some e o ≡ true → unless_ended e o ≡ None
unless_ended_lem e None q = refl
unless_ended_lem e (Some t) q = rw q

-- the token behind a proxy LUN ends with it, or outlives it with it
pub behind_ended : (e : Ending) (ts : List Token) (ps : List ProxyLun) (i l : ℕ) → ((n : ℕ) → Once (has_number n) ts) → Once (is_proxy i l) ps → token_behind (keep (outlives e) ts) (find (is_proxy i l) (keep (kept_by e ts) ps)) ≡ unless_ended e (token_behind ts (find (is_proxy i l) ps))
behind_ended e ts ps i l tokens once =
    ap (token_behind (keep (outlives e) ts)) (find_keep (is_proxy i l) (kept_by e ts) ps once) ∙ go (find (is_proxy i l) ps)
  where
    go : (o : Option ProxyLun) → token_behind (keep (outlives e) ts) (only (kept_by e ts) o) ≡ unless_ended e (token_behind ts o)
    go None = refl
    go (Some p) =
        split
        (rests_on_ended e ts p)
        (λ q. rw q (sym (unless_ended_lem e (token_for ts p.token) q)))
        (λ q. rw q (token_ended e ts p.token (tokens p.token)))

-- ---- an issue
pub token_issued_lem : (ts : List Token) (t : Token) (n : ℕ) → token_for ts t.number ≡ None → token_for (ts ++ (t ∷ [])) n ≡ cond (eqb t.number n) (Some t) (token_for ts n)
unfolding token_for
token_issued_lem ts t n new =
    find_put (has_number n) ts t (λ q. ap (λ (m : ℕ). find (has_number m) ts) (sym (eqb-true t.number n q)) ∙ new)

-- a token that was live is found as before
pub found_before : (ts : List Token) (t : Token) (n : ℕ) → is_some (token_for ts n) ≡ true → token_for (ts ++ (t ∷ [])) n ≡ token_for ts n
unfolding token_for
found_before ts t n live = find_append (has_number n) ts (t ∷ []) ∙ rw (sym (find_any (has_number n) ts) ∙ live)

-- a proxy LUN's token was live before
pub behind_issued : (ts : List Token) (t : Token) (ps : List ProxyLun) (i l : ℕ) → ((p : ProxyLun) → p ∈ ps → is_some (token_for ts p.token) ≡ true) → token_behind (ts ++ (t ∷ [])) (find (is_proxy i l) ps) ≡ token_behind ts (find (is_proxy i l) ps)
behind_issued ts t ps i l live = go (find (is_proxy i l) ps) refl
  where
    go : (o : Option ProxyLun) → find (is_proxy i l) ps ≡ o → token_behind (ts ++ (t ∷ [])) o ≡ token_behind ts o
    go None e = refl
    go (Some p) e = found_before ts t p.token (live p (find_in (is_proxy i l) ps e).0)

-- ---- an assignment
-- a LUN of the form is known by its head
pub proxy_is : (i l n j m : ℕ) → lun_of (head_of l) ≡ l → is_proxy j m (record { initiator = i; lun = head_of l; token = n }) ≡ same_proxy_lun i l j m
proxy_is i l n j m formed = ap (λ (x : ℕ). eqb i j && eqb x m) formed

-- where the initiator has no such proxy LUN, no other name of it has one
pub free_too : (ps : List ProxyLun) (i l j m : ℕ) → find (is_proxy i l) ps ≡ None → same_proxy_lun i l j m ≡ true → find (is_proxy j m) ps ≡ None
free_too ps i l j m free e =
    let q = and_true (eqb i j) (eqb l m) e in
    rw (← (eqb-true i j q.0), ← (eqb-true l m q.1)) free

pub behind_assigned : (ts : List Token) (ps : List ProxyLun) (i l n j m : ℕ) → lun_of (head_of l) ≡ l → find (is_proxy i l) ps ≡ None → token_behind ts (find (is_proxy j m) (ps ++ (record { initiator = i; lun = head_of l; token = n } ∷ []))) ≡ cond (same_proxy_lun i l j m) (token_for ts n) (token_behind ts (find (is_proxy j m) ps))
behind_assigned ts ps i l n j m formed free =
    ap (token_behind ts) (find_put (is_proxy j m) ps (record { initiator = i; lun = head_of l; token = n }) (λ q. free_too ps i l j m free (sym (proxy_is i l n j m formed) ∙ q)))
    ∙ (ap (λ (b : Bool). token_behind ts (cond b (Some (record { initiator = i; lun = head_of l; token = n })) (find (is_proxy j m) ps))) (proxy_is i l n j m formed)
    ∙ split (same_proxy_lun i l j m) (λ q. rw q) (λ q. rw q))

-- ---- a release
-- a proxy LUN is one of two names where the names are one
proxy_same : (i l j m : ℕ) (p : ProxyLun) → is_proxy j m p ≡ true → is_proxy i l p ≡ same_proxy_lun i l j m
proxy_same i l j m p e =
    let q = and_true (eqb p.initiator j) (eqb (lun_of p.lun) m) e in
    ap₂ (λ (x y : ℕ). eqb x i && eqb y l) (eqb-true p.initiator j q.0) (eqb-true (lun_of p.lun) m q.1)
    ∙ ap₂ ◌&&◌ (eqb_sym j i) (eqb_sym m l)

pub behind_released : (ts : List Token) (ps : List ProxyLun) (i l j m : ℕ) → Once (is_proxy j m) ps → token_behind ts (find (is_proxy j m) (keep (other_proxy i l) ps)) ≡ cond (same_proxy_lun i l j m) None (token_behind ts (find (is_proxy j m) ps))
behind_released ts ps i l j m once =
    ap (token_behind ts) (find_keep (is_proxy j m) (other_proxy i l) ps once) ∙ go (find (is_proxy j m) ps) refl
  where
    go : (o : Option ProxyLun) → find (is_proxy j m) ps ≡ o → token_behind ts (only (other_proxy i l) o) ≡ cond (same_proxy_lun i l j m) None (token_behind ts o)
    go None e = split (same_proxy_lun i l j m) (λ q. rw q) (λ q. rw q)
    go (Some p) e =
        ap (λ (b : Bool). token_behind ts (cond (not b) (Some p) None)) (proxy_same i l j m p (find_in (is_proxy j m) ps e).1)
        ∙ split (same_proxy_lun i l j m) (λ q. rw q) (λ q. rw q)
