-- What REVOKE, 08h, pages 02h and 03h and DISABLE put into effect; and after a statement that ends tokens, no number and no X row has one of them.
use Prim.Native.Nat.{ℕ}
use mathlib.Core.Path.{◌≡◌, refl, sym, ◌∙◌, subst}
use mathlib.Core.Bool.{Bool, true, false, cond, ◌&&◌}
use mathlib.Core.List.{List, [], ◌∷◌, ◌++◌}
use Rattle.std.specs.Prelude.{Some, None}
use mathlib.Core.Logic.{⊎_elim}
use native.Mathlib.Omega.{arith}
use lib.Dec.{eqb}
use Rattle.lists.specs.Lists.{◌∈◌, here, any, all, gather}
use Rattle.lists.proofs.Tests.{split, clashes, or_false}
use Rattle.lists.proofs.Members.{in_cons, in_right, in_gather, from_gather, all_append, all_in, in_all, none_any}
use Rattle.wire.specs.Lun.{lun_of}
use Rattle.paper.specs.Identifiers.{kept}
use Rattle.paper.specs.Setup.{Setup}
use Rattle.paper.specs.Effects.{Switching, turned_on, turned_off, flushed, joined, left, link_event, Ending, own, named, listed, all_tokens, Effect, Proxying, issued, ended, assigned, released, switched, keyed, granted, enrolling, tokening, proxying, ends}
use Rattle.paper.specs.Pages.{new_key_in, flush_in, ace_pages, page_code, tokens_in, page_effects, manage_effects}
use Rattle.paper.specs.Orders.{Order, report_acl, request_token, manage_acl, disable, enroll, cancel, revoke, revoke_all, assign, release, no_action, Reading, wrong, order, reading_of}
use Rattle.paper.specs.InForce.{in_force, effects, link_effects}
use Rattle.paper.specs.Reports.{reach_rows}
use Rattle.paper.specs.Readings.{History, is_on, token, proxy_token}
use Rattle.paper.specs.Runs.{Statement, command, link, Entry, reading_effects, statement_effects, answered_effects, onto, took}
use Rattle.paper.proofs.Invariant.{Holds}
use Rattle.paper.proofs.Revoked.{ended_gone, ended_not_live, assigns, issues, behind_before, live_before, RestsOn, x_rests}
use Rattle.paper.specs.declared.state.IdType.TheVariants.{AccessId}
use Rattle.paper.specs.declared.state.Ground.TheVariants.{GroundX}
use Rattle.paper.specs.declared.state.Token.{Token}
use Rattle.paper.specs.declared.state.Row.{Row}
use Rattle.paper.specs.declared.state.Coordinator.{Coordinator}
use Rattle.paper.specs.declared.answers.Answer.{Answer}
use Rattle.paper.specs.declared.answers.Answer.TheVariants.{Good, Check, Refused}

-- ---- what takes effect
module _ (luns : List ℕ) (on : Bool) (i random : ℕ) where
  -- "REVOKE ends the caller's own token"
  pub revoke_takes : (n : ℕ) → effects luns on i random (revoke n) ≡ tokening (ended (own i n)) ∷ []
  unfolding effects
  revoke_takes n = refl

  -- "08h ends all tokens the caller got by naming that LUN"
  pub revoke_all_takes : (l : ℕ) → effects luns on i random (revoke_all l) ≡ tokening (ended (named i l)) ∷ []
  unfolding effects
  revoke_all_takes l = refl

  -- "DISABLE checks the key, then empties all tables"
  pub disable_takes : (key : ℕ) → effects luns on i random (disable key) ≡ switched turned_off ∷ []
  unfolding effects
  disable_takes key = refl

  in_manage : (list page : List ℕ) {x : Effect} → page ∈ ace_pages list → x ∈ page_effects luns page → x ∈ effects luns on i random (manage_acl list)
  unfolding effects manage_effects
  in_manage list page m k =
      in_right (keyed (new_key_in list) ∷ cond on [] (switched turned_on ∷ []))
      (in_right (cond (flush_in list) (enrolling flushed ∷ []) []) (in_gather (page_effects luns) m k))

  -- "Page 02h revokes the tokens it lists"
  pub page_02h_takes : (list page : List ℕ) → page ∈ ace_pages list → page_code page ≡ 0x02 → tokening (ended (listed (tokens_in page))) ∈ effects luns on i random (manage_acl list)
  unfolding page_effects
  page_02h_takes list page m e = in_manage list page m (rw e (here refl))

  -- "page 03h revokes all"
  pub page_03h_takes : (list page : List ℕ) → page ∈ ace_pages list → page_code page ≡ 0x03 → tokening (ended all_tokens) ∈ effects luns on i random (manage_acl list)
  unfolding page_effects
  page_03h_takes list page m e = in_manage list page m (rw e (here refl))

-- when access controls go on or off, no token and no proxy LUN is left
pub none_over_switch : (w : Setup) (h : History) (s : Switching) → ((n : ℕ) → token w (switched s ∷ h) n ≡ None) × ((i l : ℕ) → proxy_token w (switched s ∷ h) i l ≡ None)
unfolding token proxy_token
none_over_switch w h s = (λ n. refl, λ i l. refl)

-- ---- after effects one after the other, an end among them
behind_onto : (w : Setup) (h : History) (es : List Effect) (i l : ℕ) (t : Token) → any (assigns i l) es ≡ false → proxy_token w (onto es h) i l ≡ Some t → proxy_token w h i l ≡ Some t
unfolding onto
behind_onto w h [] i l t a q = q
behind_onto w h (x ∷ es) i l t a q =
    let (b, rest) = or_false (assigns i l x) (any (assigns i l) es) a in
    behind_before w h x i l t b (behind_onto w (x ∷ h) es i l t rest q)

live_onto : (w : Setup) (h : History) (es : List Effect) (n : ℕ) (t : Token) → any (issues n) es ≡ false → token w (onto es h) n ≡ Some t → token w h n ≡ Some t
unfolding onto
live_onto w h [] n t a q = q
live_onto w h (x ∷ es) n t a q =
    let (b, rest) = or_false (issues n x) (any (issues n) es) a in
    live_before w h x n t b (live_onto w (x ∷ h) es n t rest q)

gone_after : (w : Setup) (h : History) (es : List Effect) (e : Ending) (i l : ℕ) (t : Token) → tokening (ended e) ∈ es → any (assigns i l) es ≡ false → proxy_token w (onto es h) i l ≡ Some t → ends e t ≡ false
unfolding onto
gone_after w h [] e i l t m a q = elim m [ ]
gone_after w h (x ∷ es) e i l t m a q =
    let (b, rest) = or_false (assigns i l x) (any (assigns i l) es) a in
    let later : tokening (ended e) ∈ es → ends e t ≡ false = λ k. gone_after w (x ∷ h) es e i l t k rest q in
    ⊎_elim
    (λ k. ended_gone w h e i l t (subst (λ y. proxy_token w (y ∷ h) i l ≡ Some t) (sym k) (behind_onto w (x ∷ h) es i l t rest q)))
    later
    (in_cons m)

dead_after : (w : Setup) (h : History) (es : List Effect) (e : Ending) (n : ℕ) (t : Token) → tokening (ended e) ∈ es → any (issues n) es ≡ false → token w (onto es h) n ≡ Some t → ends e t ≡ false
unfolding onto
dead_after w h [] e n t m a q = elim m [ ]
dead_after w h (x ∷ es) e n t m a q =
    let (b, rest) = or_false (issues n x) (any (issues n) es) a in
    let later : tokening (ended e) ∈ es → ends e t ≡ false = λ k. dead_after w (x ∷ h) es e n t k rest q in
    ⊎_elim
    (λ k. ended_not_live w h e n t (subst (λ y. token w (y ∷ h) n ≡ Some t) (sym k) (live_onto w (x ∷ h) es n t rest q)))
    later
    (in_cons m)

-- ---- MANAGE ACL issues no token and assigns no proxy LUN
abbrev managing : Effect → Bool
managing (switched s) = true
managing (keyed k) = true
managing (granted k id content x) = true
managing (enrolling x) = true
managing (tokening (issued i l n)) = false
managing (tokening (ended e)) = true
managing (proxying x) = false

page_manages : (luns page : List ℕ) → all managing (page_effects luns page) ≡ true
unfolding page_effects
page_manages luns page =
    split (eqb (page_code page) 0)
    (λ p. rw p)
    (λ p. rw p (split (eqb (page_code page) 1) (λ q. rw q) (λ q. rw q (split (eqb (page_code page) 2) (λ r. rw r) (λ r. rw r (split (eqb (page_code page) 3) (λ s. rw s) (λ s. rw s)))))))

manage_manages : (luns : List ℕ) (on : Bool) (list : List ℕ) → all managing (manage_effects luns on list) ≡ true
unfolding manage_effects
manage_manages luns on list =
    all_append managing (keyed (new_key_in list) ∷ cond on [] (switched turned_on ∷ [])) (flush ++ pages)
    ∙ rw (all_append managing flush pages, paged) (split on (λ p. rw p flushes) (λ p. rw p flushes))
  where
    flush : List Effect
    flush = cond (flush_in list) (enrolling flushed ∷ []) []

    pages : List Effect
    pages = gather (page_effects luns) (ace_pages list)

    paged : all managing pages ≡ true
    paged =
        in_all managing pages
        (λ x m. let (page, k, g) = from_gather (page_effects luns) (ace_pages list) m in all_in managing (page_manages luns page) g)

    flushes : all managing flush && true ≡ true
    flushes = split (flush_in list) (λ p. rw p) (λ p. rw p)

no_assign : (i l : ℕ) (x : Effect) → managing x ≡ true → assigns i l x ≡ false
no_assign i l (switched s) m = refl
no_assign i l (keyed k) m = refl
no_assign i l (granted k id content x) m = refl
no_assign i l (enrolling x) m = refl
no_assign i l (tokening x) m = refl
no_assign i l (proxying x) m = clashes m refl

no_issue : (n : ℕ) (x : Effect) → managing x ≡ true → issues n x ≡ false
no_issue n (switched s) m = refl
no_issue n (keyed k) m = refl
no_issue n (granted k id content x) m = refl
no_issue n (enrolling x) m = refl
no_issue n (tokening (issued i l k)) m = clashes m refl
no_issue n (tokening (ended e)) m = refl
no_issue n (proxying x) m = refl

pub manage_no_issue : (luns : List ℕ) (on : Bool) (list : List ℕ) (n : ℕ) → any (issues n) (manage_effects luns on list) ≡ false
manage_no_issue luns on list n =
    none_any (issues n) (manage_effects luns on list) (λ x k. no_issue n x (all_in managing (manage_manages luns on list) k))

-- an end is no assignment, and no issue
end_no_proxying : (e : Ending) (x : Proxying) → tokening (ended e) ∈ (proxying x ∷ []) → ⊥
end_no_proxying e x m = ⊎_elim (λ k. let z : ◌≡◌ {A = ℕ} 0 1 = cc in omega arith) (λ j. elim j [ ]) (in_cons m)

end_no_issue : (e : Ending) (i l n : ℕ) → tokening (ended e) ∈ (tokening (issued i l n) ∷ []) → ⊥
end_no_issue e i l n m = ⊎_elim (λ k. let z : ◌≡◌ {A = ℕ} 0 1 = cc in omega arith) (λ j. elim j [ ]) (in_cons m)

-- ---- after an order that ends tokens, no X row and no number has one of them
module _ (w : Setup) (h : History) (luns : List ℕ) (on : Bool) (i random : ℕ) (e : Ending) (t : Token) where
  pub order_ends_lem : (o : Order) (j l : ℕ) → tokening (ended e) ∈ effects luns on i random o → proxy_token w (onto (effects luns on i random o) h) j l ≡ Some t → ends e t ≡ false
  unfolding effects
  order_ends_lem (report_acl key room) j l m q = elim m [ ]
  order_ends_lem (request_token k) j l m q = gone_after w h (tokening (issued i k random) ∷ []) e j l t m refl q
  order_ends_lem (manage_acl list) j l m q =
      gone_after w h (manage_effects luns on list) e j l t m
      (none_any (assigns j l) (manage_effects luns on list) (λ x k. no_assign j l x (all_in managing (manage_manages luns on list) k))) q
  order_ends_lem (disable key) j l m q = gone_after w h (switched turned_off ∷ []) e j l t m refl q
  order_ends_lem (enroll id) j l m q = gone_after w h (enrolling (joined i (kept AccessId id)) ∷ []) e j l t m refl q
  order_ends_lem cancel j l m q = gone_after w h (enrolling (left i) ∷ []) e j l t m refl q
  order_ends_lem (revoke n) j l m q = gone_after w h (tokening (ended (own i n)) ∷ []) e j l t m refl q
  order_ends_lem (revoke_all k) j l m q = gone_after w h (tokening (ended (named i k)) ∷ []) e j l t m refl q
  order_ends_lem (assign n k) j l m q = absurd (end_no_proxying e (assigned i k n) m)
  order_ends_lem (release k) j l m q = gone_after w h (proxying (released i k) ∷ []) e j l t m refl q
  order_ends_lem no_action j l m q = elim m [ ]

  pub order_ends_live : (o : Order) (n : ℕ) → tokening (ended e) ∈ effects luns on i random o → token w (onto (effects luns on i random o) h) n ≡ Some t → ends e t ≡ false
  unfolding effects
  order_ends_live (report_acl key room) n m q = elim m [ ]
  order_ends_live (request_token l) n m q = absurd (end_no_issue e i l random m)
  order_ends_live (manage_acl list) n m q =
      dead_after w h (manage_effects luns on list) e n t m (manage_no_issue luns on list n) q
  order_ends_live (disable key) n m q = dead_after w h (switched turned_off ∷ []) e n t m refl q
  order_ends_live (enroll id) n m q = dead_after w h (enrolling (joined i (kept AccessId id)) ∷ []) e n t m refl q
  order_ends_live cancel n m q = dead_after w h (enrolling (left i) ∷ []) e n t m refl q
  order_ends_live (revoke k) n m q = dead_after w h (tokening (ended (own i k)) ∷ []) e n t m refl q
  order_ends_live (revoke_all l) n m q = dead_after w h (tokening (ended (named i l)) ∷ []) e n t m refl q
  order_ends_live (assign k l) n m q = absurd (end_no_proxying e (assigned i l k) m)
  order_ends_live (release l) n m q = dead_after w h (proxying (released i l) ∷ []) e n t m refl q
  order_ends_live no_action n m q = elim m [ ]

-- ---- statement by statement: what the last statement of a transcript put into effect
abbrev pub last_took : Setup → Entry → List Entry → List Effect
last_took w x xs =
    answered_effects x.answer (statement_effects w.luns (is_on (took w xs)) x.statement)

module _ (w : Setup) (h : History) (luns : List ℕ) (e : Ending) (j l : ℕ) (t : Token) where
  reading_ends_lem : (on : Bool) (i random : ℕ) (r : Reading) → tokening (ended e) ∈ reading_effects luns on i random r → proxy_token w (onto (reading_effects luns on i random r) h) j l ≡ Some t → ends e t ≡ false
  reading_ends_lem on i random (wrong k) m q = elim m [ ]
  reading_ends_lem on i random (order o) m q = order_ends_lem w h luns on i random e t (in_force on o) j l m q

  link_ends : (on : Bool) (i : ℕ) → tokening (ended e) ∈ link_effects on i → proxy_token w (onto (link_effects on i) h) j l ≡ Some t → ends e t ≡ false
  link_ends true i m q = gone_after w h (enrolling (link_event i) ∷ []) e j l t m refl q
  link_ends false i m q = elim m [ ]

  statement_ends : (on : Bool) (s : Statement) → tokening (ended e) ∈ statement_effects luns on s → proxy_token w (onto (statement_effects luns on s) h) j l ≡ Some t → ends e t ≡ false
  unfolding statement_effects
  statement_ends on (command i cdb list random) m q = reading_ends_lem on i random (reading_of cdb list) m q
  statement_ends on (link i) m q = link_ends on i m q

  answered_ends : (a : Answer) (on : Bool) (s : Statement) → tokening (ended e) ∈ answered_effects a (statement_effects luns on s) → proxy_token w (onto (answered_effects a (statement_effects luns on s)) h) j l ≡ Some t → ends e t ≡ false
  answered_ends Good on s m q = statement_ends on s m q
  answered_ends (Check k) on s m q = elim m [ ]
  answered_ends (Refused n) on s m q = elim m [ ]

-- "A token's end ends its proxy LUNs for everybody.": after a statement that ended tokens, no initiator's proxy LUN has one of them
pub statement_gone : (w : Setup) (x : Entry) (xs : List Entry) (e : Ending) → tokening (ended e) ∈ last_took w x xs → (i l : ℕ) (t : Token) → proxy_token w (took w (x ∷ xs)) i l ≡ Some t → ends e t ≡ false
unfolding took
statement_gone w x xs e m i l t q =
    answered_ends w (took w xs) w.luns e i l t x.answer (is_on (took w xs)) x.statement m q

-- and no X row of the list rests on one of them
pub none_listed : (w : Setup) (x : Entry) (xs : List Entry) (c : Coordinator) (e : Ending) → Holds w (took w (x ∷ xs)) c → tokening (ended e) ∈ last_took w x xs → (r : Row) → r ∈ reach_rows c → r.ground ≡ GroundX → (t : Token) × RestsOn w (took w (x ∷ xs)) r t × (ends e t ≡ false)
none_listed w x xs c e holds m r k g =
    let (t, rests) = x_rests w (took w (x ∷ xs)) c holds r k g in
    (t, rests, statement_gone w x xs e m r.initiator (lun_of r.lun) t rests.behind)
