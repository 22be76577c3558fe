-- The tables say what the history says: at the start, and after every statement that is answered GOOD.
use Prim.Native.Nat.{ℕ}
use mathlib.Core.Path.{◌≡◌, refl, ap, sym, ◌∙◌}
use mathlib.Core.List.{List, [], ◌∷◌}
use mathlib.Core.Bool.{true}
use lib.ListN.{length}
use Rattle.paper.specs.Setup.{Setup, ids_in, setup_in, accepted}
use Rattle.paper.specs.Fresh.{fresh}
use Rattle.paper.specs.Rows.{ace_for, token_for}
use Rattle.paper.specs.Effects.{Effect}
use Rattle.paper.specs.Applied.{applied, applied_all}
use Rattle.paper.specs.Outcomes.{good, decide_command, decide_link}
use Rattle.paper.specs.Readings.{History, is_on, last_page, enrolment, live_tokens, token, proxy_token}
use Rattle.paper.specs.Runs.{onto}
use Rattle.paper.proofs.Getters.{settled, fresh_units, fresh_transports}
use Rattle.paper.proofs.Invariant.{Agrees, Sound, Holds}
use Rattle.paper.proofs.SetupBytes.{accepted_so, ids_kept}
use Rattle.paper.proofs.EnrolmentsAfter.{nobody}
use Rattle.paper.proofs.Fitting.{FitAll}
use Rattle.paper.proofs.AgreedEffects.{keeps}
use Rattle.paper.proofs.SoundEffects.{stays}
use Rattle.paper.proofs.Fits.{command_fits, link_fits}
use Rattle.paper.specs.declared.state.Coordinator.{Coordinator}

-- ---- effects one after the other
all_sound : (c : Coordinator) (es : List Effect) → FitAll c es → Sound c → Sound (applied_all c es)
unfolding applied_all
all_sound c [] fit sound = sound
all_sound c (e ∷ es) fit sound = all_sound (applied c e) es fit.1 (stays c sound e fit.0)

all_agree : (w : Setup) (h : History) (c : Coordinator) (es : List Effect) → FitAll c es → Sound c → Agrees w h c → Agrees w (onto es h) (applied_all c es)
unfolding applied_all onto
all_agree w h c [] fit sound a = a
all_agree w h c (e ∷ es) fit sound a =
    all_agree w (e ∷ h) (applied c e) es fit.1 (stays c sound e fit.0) (keeps w h c sound a e fit.0)

-- ---- a statement that is answered GOOD
pub command_agrees : {es : List Effect} {bytes : List ℕ} (w : Setup) (h : History) (c : Coordinator) → Holds w h c → (i : ℕ) (cdb list : List ℕ) (random room : ℕ) → decide_command c i cdb list random room ≡ good es bytes → Agrees w (onto es h) (applied_all c es) × Sound (applied_all c es)
command_agrees {es} w h c o i cdb list random room e =
    let f = command_fits c o.sound i cdb list random room e in
    (all_agree w h c es f o.sound o.agrees, all_sound c es f o.sound)

pub link_agrees : {es : List Effect} {bytes : List ℕ} (w : Setup) (h : History) (c : Coordinator) → Holds w h c → (i : ℕ) → decide_link c i ≡ good es bytes → Agrees w (onto es h) (applied_all c es) × Sound (applied_all c es)
link_agrees {es} w h c o i e =
    let f = link_fits c i e in (all_agree w h c es f o.sound o.agrees, all_sound c es f o.sound)

-- ---- the start
pub start_agrees : (ids luns : List ℕ) → accepted ids luns ≡ true → Agrees (setup_in ids luns) [] (fresh (setup_in ids luns))
unfolding fresh is_on last_page enrolment live_tokens token proxy_token ace_for token_for
start_agrees ids luns e =
    record {
      transports = fresh_transports (setup_in ids luns) ∙ ids_kept ids (accepted_so ids luns e).whole_ids;
      units = fresh_units (setup_in ids luns);
      on = refl;
      pages = λ k id. refl;
      enrolments = nobody (length (ids_in ids));
      live = refl;
      tokens = λ n. refl;
      proxies = λ i l. refl;
    }

-- whatever the setup
pub start_sound : (w : Setup) → Sound (fresh w)
unfolding fresh
start_sound w =
    record {
      tokens = λ n. tt;
      proxies = λ i l. tt;
      live = λ p m. elim m [ ];
      kept = λ i. let z = nobody (length w.transports) i in ap settled z ∙ sym z;
    }
