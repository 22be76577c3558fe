-- Every effect that fits leaves the tables sound: a token and an initiator's proxy LUN once, each proxy LUN behind a live token, enrolments as they are kept.
use Prim.Native.Nat.{ℕ}
use mathlib.Core.Path.{◌≡◌, refl, ap, sym, ◌∙◌, subst}
use mathlib.Core.List.{List, [], ◌∷◌, ◌++◌, map}
use mathlib.Core.Bool.{Bool, true, false, cond}
use lib.ListN.{set}
use lib.Dec.{eqb}
use borrow.Author.Tests.{eqb-true, not-true}
use Rattle.lists.specs.Lists.{◌∈◌, find, keep, is_some}
use Rattle.lists.proofs.Members.{Once, once_keep, once_last, from_keep}
use Rattle.wire.specs.Lun.{head_of}
use Rattle.paper.specs.Contents.{Content, Enrolment, not_enrolled, enrolled}
use Rattle.paper.specs.Tables.{enrolments_of, enrolment_of, aces_of, tokens_of, proxies_of, with_aces, with_tokens, with_enrolments}
use Rattle.paper.specs.Rows.{has_number, token_for}
use Rattle.paper.specs.Effects.{Switching, turned_on, turned_off, flushed, joined, left, link_event, Tokening, issued, ended, Proxying, assigned, released, Effect, switched, keyed, granted, enrolling, tokening, proxying, suspended, ended_under, ends_enrolments, outlives}
use Rattle.paper.specs.Applied.{put_ace, after_switching, after_grant, issued_token, rests_on_ended, kept_by, after_tokening, is_proxy, other_proxy, after_proxying, applied}
use Rattle.paper.proofs.Getters.{settled, tokens_with, proxies_with}
use Rattle.paper.proofs.Invariant.{Sound}
use Rattle.paper.proofs.ListLaws.{each_last, find_nothing, is_none}
use Rattle.paper.proofs.Luns.{lun_whole}
use Rattle.paper.proofs.EnrolmentsAfter.{settled_again, enrolment_mapped, enrolment_set, nobody}
use Rattle.paper.proofs.TokensAfter.{still_live, found_before, proxy_is, free_too}
use Rattle.paper.proofs.Fitting.{Fit, assigned_free}
use Rattle.paper.specs.declared.state.IdType.{IdType}
use Rattle.paper.specs.declared.state.Token.{Token}
use Rattle.paper.specs.declared.state.ProxyLun.{ProxyLun}
use Rattle.paper.specs.declared.state.Coordinator.{Coordinator}

-- what is read back was settled when it was written
as_kept : {e : Enrolment} (f : Enrolment) → e ≡ settled f → settled e ≡ e
as_kept f q = ap settled q ∙ (settled_again f ∙ sym q)

module _ (c : Coordinator) (sound : Sound c) where
  -- ---- the switch
  sound_switched : (s : Switching) → Sound (after_switching c s)
  sound_switched turned_on =
      record { tokens = sound.tokens; proxies = sound.proxies; live = sound.live; kept = sound.kept }
  sound_switched turned_off =
      record {
        tokens = λ n. tt;
        proxies = λ i l. tt;
        live = λ p m. elim m [ ];
        kept = λ i. let z = nobody c.initiators.count i in ap settled z ∙ sym z;
      }

  -- ---- pages and enrolments
  sound_enrolling : (es : List Enrolment) → ((i : ℕ) → settled (enrolment_of (with_enrolments c es) i) ≡ enrolment_of (with_enrolments c es) i) → Sound (with_enrolments c es)
  sound_enrolling es k = record { tokens = sound.tokens; proxies = sound.proxies; live = sound.live; kept = k }

  sound_granted : (k : IdType) (id : List ℕ) (content : Content) (b : Bool) → Sound (after_grant c k id content b)
  sound_granted k id content true =
      record {
        tokens = sound.tokens;
        proxies = sound.proxies;
        live = sound.live;
        kept = λ i. as_kept (ended_under id (enrolment_of c i)) (enrolment_mapped (with_aces c (put_ace k id content (aces_of c))) (ended_under id) refl i);
      }
  sound_granted k id content false =
      record { tokens = sound.tokens; proxies = sound.proxies; live = sound.live; kept = sound.kept }

  -- ---- tokens
  sound_tokening : (x : Tokening) → Fit c (tokening x) → Sound (after_tokening c x)
  unfolding token_for
  sound_tokening (issued i l n) fit =
      let t : Token = issued_token c i l n in
      let now = sym (tokens_with c (tokens_of c ++ (t ∷ []))) in
      record {
        tokens = λ m.
            subst (λ (ts : List Token). Once (has_number m) ts) now
            (once_last (has_number m) (tokens_of c) t (λ q. find_nothing (has_number m) (tokens_of c) (ap (λ (x : ℕ). find (has_number x) (tokens_of c)) (sym (eqb-true n m q)) ∙ is_none _ fit.passed.new)) (sound.tokens m));
        proxies = sound.proxies;
        live = λ p m.
            subst (λ (ts : List Token). is_some (token_for ts p.token) ≡ true) now
            (ap is_some (found_before (tokens_of c) t p.token (sound.live p m)) ∙ sound.live p m);
        kept = sound.kept;
      }
  sound_tokening (ended e) fit =
      let now = sym (tokens_with c (keep (outlives e) (tokens_of c))) in
      let left = proxies_with (with_tokens c (keep (outlives e) (tokens_of c))) (keep (kept_by e (tokens_of c)) (proxies_of c)) in
      record {
        tokens = λ n.
            subst (λ (ts : List Token). Once (has_number n) ts) now
            (once_keep (has_number n) (outlives e) (tokens_of c) (sound.tokens n));
        proxies = λ i l.
            subst (λ (ps : List ProxyLun). Once (is_proxy i l) ps) (sym left)
            (once_keep (is_proxy i l) (kept_by e (tokens_of c)) (proxies_of c) (sound.proxies i l));
        live = λ p m.
            subst (λ (ts : List Token). is_some (token_for ts p.token) ≡ true) now
            (let r = from_keep (kept_by e (tokens_of c)) (proxies_of c) (subst (λ (ps : List ProxyLun). p ∈ ps) left m) in
            still_live e (tokens_of c) p.token (sound.tokens p.token) (sound.live p r.0) (not-true (rests_on_ended e (tokens_of c) p) r.1));
        kept = sound.kept;
      }

  -- ---- proxy LUNs
  sound_proxying : (x : Proxying) → Fit c (proxying x) → Sound (after_proxying c x)
  sound_proxying (assigned i l n) fit =
      let new : ProxyLun = record { initiator = i; lun = head_of l; token = n } in
      let now = proxies_with c (proxies_of c ++ (new ∷ [])) in
      record {
        tokens = sound.tokens;
        proxies = λ j m.
            subst (λ (ps : List ProxyLun). Once (is_proxy j m) ps) (sym now)
            (once_last (is_proxy j m) (proxies_of c) new (λ q. find_nothing (is_proxy j m) (proxies_of c) (free_too (proxies_of c) i l j m (assigned_free sound fit) (sym (proxy_is i l n j m (lun_whole l fit.passed.form)) ∙ q))) (sound.proxies j m));
        live = λ p m.
            each_last (λ (x : ProxyLun). is_some (token_for (tokens_of c) x.token) ≡ true) (proxies_of c) new sound.live fit.passed.live p
            (subst (λ (ps : List ProxyLun). p ∈ ps) now m);
        kept = sound.kept;
      }
  sound_proxying (released i l) fit =
      let now = proxies_with c (keep (other_proxy i l) (proxies_of c)) in
      record {
        tokens = sound.tokens;
        proxies = λ j m.
            subst (λ (ps : List ProxyLun). Once (is_proxy j m) ps) (sym now)
            (once_keep (is_proxy j m) (other_proxy i l) (proxies_of c) (sound.proxies j m));
        live = λ p m.
            sound.live p (from_keep (other_proxy i l) (proxies_of c) (subst (λ (ps : List ProxyLun). p ∈ ps) now m)).0;
        kept = sound.kept;
      }

  -- ---- every effect
  pub stays : (e : Effect) → Fit c e → Sound (applied c e)
  unfolding applied
  stays (switched s) fit = sound_switched s
  stays (keyed k) fit =
      record { tokens = sound.tokens; proxies = sound.proxies; live = sound.live; kept = sound.kept }
  stays (granted k id content n) fit = sound_granted k id content (ends_enrolments k content n)
  stays (enrolling flushed) fit =
      sound_enrolling (map suspended (enrolments_of c)) (λ i. as_kept (suspended (enrolment_of c i)) (enrolment_mapped c suspended refl i))
  stays (enrolling (joined i id)) fit =
      sound_enrolling (set (enrolments_of c) i (enrolled id)) (λ j. as_kept (cond (eqb i j) (enrolled id) (enrolment_of c j)) (enrolment_set c i (enrolled id) j fit.there))
  stays (enrolling (left i)) fit =
      sound_enrolling (set (enrolments_of c) i not_enrolled) (λ j. as_kept (cond (eqb i j) not_enrolled (enrolment_of c j)) (enrolment_set c i not_enrolled j fit))
  stays (enrolling (link_event i)) fit =
      sound_enrolling (set (enrolments_of c) i (suspended (enrolment_of c i))) (λ j. as_kept (cond (eqb i j) (suspended (enrolment_of c i)) (enrolment_of c j)) (enrolment_set c i (suspended (enrolment_of c i)) j fit))
  stays (tokening x) fit = sound_tokening x fit
  stays (proxying x) fit = sound_proxying x fit
