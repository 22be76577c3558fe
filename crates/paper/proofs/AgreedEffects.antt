-- Every effect that fits keeps the tables in step with the history.
use Prim.Native.Nat.{ℕ}
use mathlib.Core.Path.{◌≡◌, refl, ap, ap₂, sym, ◌∙◌}
use mathlib.Core.List.{List, [], ◌∷◌, ◌++◌, map}
use Rattle.std.specs.Prelude.{None}
use mathlib.Core.Bool.{Bool, true, false, cond}
use lib.ListN.{set}
use lib.Dec.{eqb}
use borrow.Author.Tests.{eqb-true}
use Rattle.lists.specs.Lists.{find, keep}
use Rattle.lists.proofs.Tests.{split}
use Rattle.wire.specs.Lun.{head_of}
use Rattle.paper.specs.Identifiers.{same_id}
use Rattle.paper.specs.Setup.{Setup}
use Rattle.paper.specs.Contents.{Content, Enrolment, not_enrolled, enrolled}
use Rattle.paper.specs.Tables.{enrolments_of, enrolment_of, aces_of, tokens_of, proxies_of, with_aces, with_tokens, with_proxies, with_enrolments}
use Rattle.paper.specs.Rows.{ace_for, content_for, token_for}
use Rattle.paper.specs.Effects.{Switching, turned_on, turned_off, Enrolling, flushed, joined, left, link_event, Tokening, issued, ended, Proxying, assigned, released, Effect, switched, keyed, granted, enrolling, tokening, proxying, suspended, ended_under, ends_enrolments, outlives}
use Rattle.paper.specs.Applied.{put_ace, after_switching, after_grant, after_enrolling, issued_token, kept_by, after_tokening, is_proxy, other_proxy, after_proxying, applied}
use Rattle.paper.specs.Readings.{History, is_on, last_page, enrolment, live_tokens, token, one_more, unless_ended, same_proxy_lun, proxy_token}
use Rattle.paper.proofs.Getters.{aces_with, tokens_with, proxies_with}
use Rattle.paper.proofs.Invariant.{content_left, token_behind, Agrees, Sound}
use Rattle.paper.proofs.AcesAfter.{content_put}
use Rattle.paper.proofs.EnrolmentsAfter.{settled_suspended, settled_ended, enrolment_mapped, enrolment_set, nobody}
use Rattle.paper.proofs.Placed.{issued_token_lem}
use Rattle.paper.proofs.TokensAfter.{token_ended, behind_ended, token_issued_lem, behind_issued, behind_assigned, behind_released}
use Rattle.paper.proofs.ListLaws.{is_none}
use Rattle.paper.proofs.Luns.{lun_whole}
use Rattle.paper.proofs.Fitting.{Fit, assigned_free}
use Rattle.paper.specs.declared.state.IdType.{IdType}
use Rattle.paper.specs.declared.state.Ace.{Ace}
use Rattle.paper.specs.declared.state.Token.{Token}
use Rattle.paper.specs.declared.state.ProxyLun.{ProxyLun}
use Rattle.paper.specs.declared.state.Coordinator.{Coordinator}

module _ (w : Setup) (h : History) (c : Coordinator) (sound : Sound c) (a : Agrees w h c) where
  -- ---- the switch
  agrees_switched : (s : Switching) → Fit c (switched s) → Agrees w (switched s ∷ h) (after_switching c s)
  unfolding is_on last_page enrolment live_tokens token proxy_token ace_for token_for
  agrees_switched turned_on fit =
      record {
        transports = a.transports;
        units = a.units;
        on = refl;
        pages = λ k id. ap (λ (aces : List Ace). content_for aces k id) fit.aces;
        enrolments = fit.enrolments;
        live = fit.tokens;
        tokens = λ n. ap (λ (ts : List Token). token_for ts n) fit.tokens;
        proxies = λ i l. ap (λ (ps : List ProxyLun). token_behind (tokens_of c) (find (is_proxy i l) ps)) fit.proxies;
      }
  agrees_switched turned_off fit =
      record {
        transports = a.transports;
        units = a.units;
        on = refl;
        pages = λ k id. refl;
        enrolments = nobody c.initiators.count;
        live = refl;
        tokens = λ n. refl;
        proxies = λ i l. refl;
      }

  agrees_keyed : (k : ℕ) → Agrees w (keyed k ∷ h) (applied c (keyed k))
  unfolding is_on last_page enrolment live_tokens token proxy_token applied
  agrees_keyed k =
      record {
        transports = a.transports;
        units = a.units;
        on = a.on;
        pages = a.pages;
        enrolments = a.enrolments;
        live = a.live;
        tokens = a.tokens;
        proxies = a.proxies;
      }

  -- ---- pages
  page_put : (k : IdType) (id : List ℕ) (content : Content) (n : Bool) (l : IdType) (x : List ℕ) → content_for (aces_of (with_aces c (put_ace k id content (aces_of c)))) l x ≡ content_left (last_page (granted k id content n ∷ h) l x)
  unfolding last_page
  page_put k id content n l x =
      ap (λ (aces : List Ace). content_for aces l x) (aces_with c (put_ace k id content (aces_of c)))
      ∙ (content_put k id (aces_of c) l x content
      ∙ split (same_id k id l x) (λ q. rw q) (λ q. rw q (a.pages l x)))

  agrees_granted : (k : IdType) (id : List ℕ) (content : Content) (n b : Bool) → ends_enrolments k content n ≡ b → Agrees w (granted k id content n ∷ h) (after_grant c k id content b)
  unfolding is_on enrolment live_tokens token proxy_token
  agrees_granted k id content n true q =
      record {
        transports = a.transports;
        units = a.units;
        on = a.on;
        pages = page_put k id content n;
        enrolments = λ i.
            enrolment_mapped (with_aces c (put_ace k id content (aces_of c))) (ended_under id) refl i
            ∙ (settled_ended id (enrolment_of c i) (sound.kept i)
            ∙ (ap (ended_under id) (a.enrolments i)
            ∙ ap (λ (b : Bool). cond b (ended_under id (enrolment h i)) (enrolment h i)) (sym q)));
        live = a.live;
        tokens = a.tokens;
        proxies = a.proxies;
      }
  agrees_granted k id content n false q =
      record {
        transports = a.transports;
        units = a.units;
        on = a.on;
        pages = page_put k id content n;
        enrolments = λ i.
            a.enrolments i ∙ ap (λ (b : Bool). cond b (ended_under id (enrolment h i)) (enrolment h i)) (sym q);
        live = a.live;
        tokens = a.tokens;
        proxies = a.proxies;
      }

  -- ---- enrolments
  enrolled_so : (x : Enrolling) → Fit c (enrolling x) → (j : ℕ) → enrolment_of (after_enrolling c x) j ≡ enrolment (enrolling x ∷ h) j
  unfolding enrolment
  enrolled_so flushed fit j =
      enrolment_mapped c suspended refl j
      ∙ (settled_suspended (enrolment_of c j) (sound.kept j) ∙ ap suspended (a.enrolments j))
  enrolled_so (joined i id) fit j =
      enrolment_set c i (enrolled id) j fit.there
      ∙ split (eqb i j) (λ q. rw q (ap enrolled fit.whole)) (λ q. rw q (sound.kept j ∙ a.enrolments j))
  enrolled_so (left i) fit j =
      enrolment_set c i not_enrolled j fit ∙ split (eqb i j) (λ q. rw q) (λ q. rw q (sound.kept j ∙ a.enrolments j))
  enrolled_so (link_event i) fit j =
      enrolment_set c i (suspended (enrolment_of c i)) j fit
      ∙ split
      (eqb i j)
      (λ q. rw q (settled_suspended (enrolment_of c i) (sound.kept i) ∙ (ap suspended (a.enrolments i) ∙ ap (λ (k : ℕ). suspended (enrolment h k)) (eqb-true i j q))))
      (λ q. rw q (sound.kept j ∙ a.enrolments j))

  agrees_enrolling : (es : List Enrolment) (x : Enrolling) → ((j : ℕ) → enrolment_of (with_enrolments c es) j ≡ enrolment (enrolling x ∷ h) j) → Agrees w (enrolling x ∷ h) (with_enrolments c es)
  unfolding is_on last_page live_tokens token proxy_token
  agrees_enrolling es x e =
      record {
        transports = a.transports;
        units = a.units;
        on = a.on;
        pages = a.pages;
        enrolments = e;
        live = a.live;
        tokens = a.tokens;
        proxies = a.proxies;
      }

  -- ---- tokens
  agrees_tokening : (x : Tokening) → Fit c (tokening x) → Agrees w (tokening x ∷ h) (after_tokening c x)
  unfolding is_on last_page enrolment live_tokens token proxy_token
  agrees_tokening (issued i l n) fit =
      let t : Token = issued_token c i l n in
      let known = issued_token_lem w h c a i l fit.there n fit.on fit.passed.opens in
      let now = tokens_with c (tokens_of c ++ (t ∷ [])) in
      record {
        transports = a.transports;
        units = a.units;
        on = a.on;
        pages = a.pages;
        enrolments = a.enrolments;
        live = now ∙ ap₂ one_more a.live (sym known);
        tokens = λ m.
            ap (λ (ts : List Token). token_for ts m) now
            ∙ (token_issued_lem (tokens_of c) t m (is_none _ fit.passed.new) ∙ ap₂ (cond (eqb n m)) (sym known) (a.tokens m));
        proxies = λ j m.
            ap (λ (ts : List Token). token_behind ts (find (is_proxy j m) (proxies_of c))) now
            ∙ (behind_issued (tokens_of c) t (proxies_of c) j m sound.live ∙ a.proxies j m);
      }
  agrees_tokening (ended e) fit =
      let now = tokens_with c (keep (outlives e) (tokens_of c)) in
      let left = proxies_with (with_tokens c (keep (outlives e) (tokens_of c))) (keep (kept_by e (tokens_of c)) (proxies_of c)) in
      record {
        transports = a.transports;
        units = a.units;
        on = a.on;
        pages = a.pages;
        enrolments = a.enrolments;
        live = now ∙ ap (keep (outlives e)) a.live;
        tokens = λ n.
            ap (λ (ts : List Token). token_for ts n) now
            ∙ (token_ended e (tokens_of c) n (sound.tokens n) ∙ ap (unless_ended e) (a.tokens n));
        proxies = λ i l.
            ap₂ (λ (ts : List Token) (ps : List ProxyLun). token_behind ts (find (is_proxy i l) ps)) now left
            ∙ (behind_ended e (tokens_of c) (proxies_of c) i l sound.tokens (sound.proxies i l)
            ∙ ap (unless_ended e) (a.proxies i l));
      }

  -- ---- proxy LUNs
  proxied_so : (x : Proxying) → Fit c (proxying x) → (j m : ℕ) → token_behind (tokens_of c) (find (is_proxy j m) (proxies_of (after_proxying c x))) ≡ proxy_token w (proxying x ∷ h) j m
  unfolding proxy_token
  proxied_so (assigned i l n) fit j m =
      ap (λ (ps : List ProxyLun). token_behind (tokens_of c) (find (is_proxy j m) ps)) (proxies_with c (proxies_of c ++ (record { initiator = i; lun = head_of l; token = n } ∷ [])))
      ∙ (behind_assigned (tokens_of c) (proxies_of c) i l n j m (lun_whole l fit.passed.form) (assigned_free sound fit)
      ∙ ap₂ (cond (same_proxy_lun i l j m)) (a.tokens n) (a.proxies j m))
  proxied_so (released i l) fit j m =
      ap (λ (ps : List ProxyLun). token_behind (tokens_of c) (find (is_proxy j m) ps)) (proxies_with c (keep (other_proxy i l) (proxies_of c)))
      ∙ (behind_released (tokens_of c) (proxies_of c) i l j m (sound.proxies j m)
      ∙ ap (cond (same_proxy_lun i l j m) None) (a.proxies j m))

  agrees_proxying : (ps : List ProxyLun) (x : Proxying) → ((j m : ℕ) → token_behind (tokens_of c) (find (is_proxy j m) (proxies_of (with_proxies c ps))) ≡ proxy_token w (proxying x ∷ h) j m) → Agrees w (proxying x ∷ h) (with_proxies c ps)
  unfolding is_on last_page enrolment live_tokens token
  agrees_proxying ps x e =
      record {
        transports = a.transports;
        units = a.units;
        on = a.on;
        pages = a.pages;
        enrolments = a.enrolments;
        live = a.live;
        tokens = a.tokens;
        proxies = e;
      }

  -- ---- every effect
  pub keeps : (e : Effect) → Fit c e → Agrees w (e ∷ h) (applied c e)
  unfolding applied
  keeps (switched s) fit = agrees_switched s fit
  keeps (keyed k) fit = agrees_keyed k
  keeps (granted k id content n) fit = agrees_granted k id content n (ends_enrolments k content n) refl
  keeps (enrolling flushed) fit = agrees_enrolling (map suspended (enrolments_of c)) flushed (enrolled_so flushed fit)
  keeps (enrolling (joined i id)) fit =
      agrees_enrolling (set (enrolments_of c) i (enrolled id)) (joined i id) (enrolled_so (joined i id) fit)
  keeps (enrolling (left i)) fit =
      agrees_enrolling (set (enrolments_of c) i not_enrolled) (left i) (enrolled_so (left i) fit)
  keeps (enrolling (link_event i)) fit =
      agrees_enrolling (set (enrolments_of c) i (suspended (enrolment_of c i))) (link_event i) (enrolled_so (link_event i) fit)
  keeps (tokening x) fit = agrees_tokening x fit
  keeps (proxying (assigned i l n)) fit =
      agrees_proxying (proxies_of c ++ (record { initiator = i; lun = head_of l; token = n } ∷ [])) (assigned i l n) (proxied_so (assigned i l n) fit)
  keeps (proxying (released i l)) fit =
      agrees_proxying (keep (other_proxy i l) (proxies_of c)) (released i l) (proxied_so (released i l) fit)
