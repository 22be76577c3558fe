-- "A token outlives its requester's own access (H).": REVOKE, 08h, pages 02h and 03h and DISABLE end a token, and nothing else does; so none of what takes its requester's access away.
use Prim.Native.Nat.{ℕ}
use mathlib.Core.Path.{◌≡◌, refl, ◌∙◌}
use mathlib.Core.Bool.{Bool, true, false, cond, not, ◌&&◌, ◌||◌}
use mathlib.Core.List.{List, [], ◌∷◌}
use Rattle.std.specs.Prelude.{Some}
use mathlib.Core.Logic.{◌⊎◌, inl, inr}
use lib.Dec.{eqb}
use borrow.Author.Tests.{not-true}
use Rattle.lists.specs.Lists.{any, all, gather}
use Rattle.lists.proofs.Tests.{split, clashes, and_true, or_false}
use Rattle.lists.proofs.Members.{all_append, all_in, in_all, from_gather, any_none, none_any}
use Rattle.paper.specs.Setup.{Setup}
use Rattle.paper.specs.Effects.{own, named, listed, Effect, issued, ended, switched, keyed, granted, enrolling, tokening, proxying, flushed, ends, outlives}
use Rattle.paper.specs.Pages.{ace_pages, page_code, tokens_in, page_effects, flush_in, manage_effects}
use Rattle.paper.specs.Orders.{Order, report_acl, request_token, manage_acl, disable, enroll, cancel, revoke, revoke_all, assign, release, no_action, Reading, wrong, order, reading_of}
use Rattle.paper.specs.InForce.{in_force, effects}
use Rattle.paper.specs.Readings.{History, is_on, token}
use Rattle.paper.specs.Runs.{Statement, command, link, Entry, reading_effects, statement_effects, answered_effects, onto, took}
use Rattle.paper.proofs.Revoked.{issues}
use Rattle.paper.proofs.Revoking.{last_took}
use Rattle.paper.proofs.Issuing.{live_on}
use Rattle.paper.specs.declared.state.Token.{Token}
use Rattle.paper.specs.declared.answers.Answer.{Answer}
use Rattle.paper.specs.declared.answers.Answer.TheVariants.{Good, Check, Refused}

-- ---- effect by effect
-- an effect that spares a token, which its number n stands for
abbrev spares : Token → ℕ → Effect → Bool
spares t n (switched s) = false
spares t n (keyed k) = true
spares t n (granted k id content x) = true
spares t n (enrolling x) = true
spares t n (tokening (issued i l m)) = not (eqb m n)
spares t n (tokening (ended e)) = outlives e t
spares t n (proxying x) = true

spared : (w : Setup) (h : History) (x : Effect) (n : ℕ) (t : Token) → spares t n x ≡ true → token w h n ≡ Some t → token w (x ∷ h) n ≡ Some t
unfolding token
spared w h (switched s) n t a q = clashes a refl
spared w h (keyed k) n t a q = q
spared w h (granted k id content x) n t a q = q
spared w h (enrolling x) n t a q = q
spared w h (tokening (issued i l m)) n t a q = rw (not-true (eqb m n) a) q
spared w h (tokening (ended e)) n t a q = rw (q, not-true (ends e t) a)
spared w h (proxying x) n t a q = q

spared_all : (w : Setup) (h : History) (es : List Effect) (n : ℕ) (t : Token) → all (spares t n) es ≡ true → token w h n ≡ Some t → token w (onto es h) n ≡ Some t
unfolding onto
spared_all w h [] n t a q = q
spared_all w h (x ∷ es) n t a q =
    let (b, rest) = and_true (spares t n x) (all (spares t n) es) a in
    spared_all w (x ∷ h) es n t rest (spared w h x n t b q)

-- ---- page by page
-- a page that ends a token: 02h that lists it, or 03h
abbrev pub page_ends : Token → List ℕ → Bool
page_ends t page = (eqb (page_code page) 0x02 && ends (listed (tokens_in page)) t) || eqb (page_code page) 0x03

page_spares : (luns page : List ℕ) (n : ℕ) (t : Token) → page_ends t page ≡ false → all (spares t n) (page_effects luns page) ≡ true
unfolding page_effects
page_spares luns page n t a =
    let (b, d) = or_false (eqb (page_code page) 2 && ends (listed (tokens_in page)) t) (eqb (page_code page) 3) a in
    split (eqb (page_code page) 0)
    (λ p. rw p)
    (λ p. rw p (split (eqb (page_code page) 1) (λ q. rw q) (λ q. rw q (split (eqb (page_code page) 2) (λ r. rw r (listing (rw r at b))) (λ r. rw (r, d))))))
  where
    listing : ends (listed (tokens_in page)) t ≡ false → outlives (listed (tokens_in page)) t && true ≡ true
    listing f = rw f

manage_spares : (luns list : List ℕ) (n : ℕ) (t : Token) → any (page_ends t) (ace_pages list) ≡ false → all (spares t n) (manage_effects luns true list) ≡ true
unfolding manage_effects
manage_spares luns list n t a =
    all_append (spares t n) (cond (flush_in list) (enrolling flushed ∷ []) []) (gather (page_effects luns) (ace_pages list))
    ∙ rw pages (split (flush_in list) (λ p. rw p) (λ p. rw p))
  where
    pages : all (spares t n) (gather (page_effects luns) (ace_pages list)) ≡ true
    pages =
        in_all (spares t n) (gather (page_effects luns) (ace_pages list))
        (λ x m.
        let (page, k, g) = from_gather (page_effects luns) (ace_pages list) m in
        all_in (spares t n) (page_spares luns page n t (any_none (page_ends t) a k)) g)

-- so pages 00h and 01h end no token, whatever they take from its requester
abbrev pub is_revoking : List ℕ → Bool
is_revoking page = eqb (page_code page) 0x02 || eqb (page_code page) 0x03

pub grants_end_none : (t : Token) (list : List ℕ) → any is_revoking (ace_pages list) ≡ false → any (page_ends t) (ace_pages list) ≡ false
grants_end_none t list a =
    none_any (page_ends t) (ace_pages list) (λ page m. spare page (any_none is_revoking a m))
  where
    spare : (page : List ℕ) → is_revoking page ≡ false → page_ends t page ≡ false
    spare page f = let (b, d) = or_false (eqb (page_code page) 2) (eqb (page_code page) 3) f in rw (b, d)

-- ---- order by order: what an initiator's order ends, where it is answered GOOD. MANAGE ACL by one of its pages; DISABLE every token; REVOKE "the caller's own token", 08h "all tokens the caller got by naming that LUN"; no other any
abbrev pub order_ends : Token → ℕ → Order → Bool
order_ends t i (report_acl key room) = false
order_ends t i (request_token l) = false
order_ends t i (manage_acl list) = any (page_ends t) (ace_pages list)
order_ends t i (disable key) = true
order_ends t i (enroll id) = false
order_ends t i cancel = false
order_ends t i (revoke n) = ends (own i n) t
order_ends t i (revoke_all l) = ends (named i l) t
order_ends t i (assign n l) = false
order_ends t i (release l) = false
order_ends t i no_action = false

abbrev pub reading_ends : Token → ℕ → Reading → Bool
reading_ends t i (wrong k) = false
reading_ends t i (order o) = order_ends t i o

-- ---- statement by statement: "A link event told by the host" ends none
abbrev pub entry_ends : Token → Statement → Bool
entry_ends t (command i cdb list random) = reading_ends t i (reading_of cdb list)
entry_ends t (link i) = false

-- what takes effect while access controls are on spares every token that the statement does not end, unless it issues that number anew
module _ (luns : List ℕ) (n : ℕ) (t : Token) where
  order_spares : (i random : ℕ) (o : Order) → order_ends t i o ≡ false → any (issues n) (effects luns true i random o) ≡ false → all (spares t n) (effects luns true i random o) ≡ true
  unfolding effects
  order_spares i random (report_acl key room) m a = refl
  order_spares i random (request_token l) m a =
      let (b, rest) = or_false (eqb random n) false a in rw b
  order_spares i random (manage_acl list) m a = manage_spares luns list n t m
  order_spares i random (disable key) m a = clashes refl m
  order_spares i random (enroll id) m a = refl
  order_spares i random cancel m a = refl
  order_spares i random (revoke k) m a = rw m
  order_spares i random (revoke_all l) m a = rw m
  order_spares i random (assign k l) m a = refl
  order_spares i random (release l) m a = refl
  order_spares i random no_action m a = refl

  reading_spares : (i random : ℕ) (r : Reading) → reading_ends t i r ≡ false → any (issues n) (reading_effects luns true i random r) ≡ false → all (spares t n) (reading_effects luns true i random r) ≡ true
  unfolding in_force
  reading_spares i random (wrong k) m a = refl
  reading_spares i random (order o) m a = order_spares i random o m a

  statement_spares : (s : Statement) → entry_ends t s ≡ false → any (issues n) (statement_effects luns true s) ≡ false → all (spares t n) (statement_effects luns true s) ≡ true
  unfolding statement_effects
  statement_spares (command i cdb list random) m a = reading_spares i random (reading_of cdb list) m a
  statement_spares (link i) m a = refl

  answered_spares : (a : Answer) (s : Statement) → entry_ends t s ≡ false → any (issues n) (answered_effects a (statement_effects luns true s)) ≡ false → all (spares t n) (answered_effects a (statement_effects luns true s)) ≡ true
  answered_spares Good s m a = statement_spares s m a
  answered_spares (Check k) s m a = refl
  answered_spares (Refused k) s m a = refl

-- after a statement that does not end it, whatever the answer, a live token is live as it was, unless the statement issues its number anew, which none does in a run (TokensInRuns)
pub outlives_entry : (w : Setup) (x : Entry) (xs : List Entry) (n : ℕ) (t : Token) → entry_ends t x.statement ≡ false → any (issues n) (last_took w x xs) ≡ false → token w (took w xs) n ≡ Some t → token w (took w (x ∷ xs)) n ≡ Some t
unfolding took
outlives_entry w x xs n t m a q =
    let on : is_on (took w xs) ≡ true = live_on w xs n t q in
    spared_all w (took w xs) (last_took w x xs) n t (rw on (answered_spares w.luns n t x.answer x.statement m (rw on at a))) q

-- a statement is answered GOOD, or leaves the whole history as it was
pub good_or_same : (w : Setup) (x : Entry) (xs : List Entry) → (x.answer ≡ Good) ⊎ (took w (x ∷ xs) ≡ took w xs)
unfolding took onto
good_or_same w x xs = go x.answer
  where
    go : (a : Answer) → (a ≡ Good) ⊎ (onto (answered_effects a (statement_effects w.luns (is_on (took w xs)) x.statement)) (took w xs) ≡ took w xs)
    go Good = inl refl
    go (Check k) = inr refl
    go (Refused n) = inr refl
