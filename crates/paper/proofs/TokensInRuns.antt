-- What is promised of tokens and proxy LUNs, for every run from an accepted setup: "A token's end ends its proxy LUNs for everybody.", "A token outlives its requester's own access (H).", "Freed room is used", and "55h/05h exactly when 32 proxy LUNs stand".
use Prim.Native.Nat.{ℕ, ◌≤◌, ◌<◌}
use mathlib.Core.Path.{◌≡◌, refl, sym, subst}
use mathlib.Core.Bool.{true, false}
use mathlib.Core.List.{List, [], ◌∷◌}
use Rattle.std.specs.Prelude.{Some}
use mathlib.Core.Logic.{◌↔◌, ⊎_elim}
use lib.ListN.{length}
use Rattle.lists.specs.Lists.{◌∈◌, any, keep, is_some}
use Rattle.lists.specs.Bytes.{be_bytes}
use Rattle.lists.proofs.Tests.{split}
use Rattle.wire.specs.Lun.{lun_form}
use Rattle.paper.specs.Setup.{Setup, setup_in}
use Rattle.paper.specs.Rows.{rows_of, has_lun}
use Rattle.paper.specs.Effects.{Ending, ends, issued, ended, tokening}
use Rattle.paper.specs.Reports.{reach_rows}
use Rattle.paper.specs.Outcomes.{good, check, decide_command}
use Rattle.paper.specs.Readings.{History, is_on, place_named, token, issued_less_ended, usable}
use Rattle.paper.specs.Runs.{Entry, command, took}
use Rattle.paper.specs.Promises.{SetupKept, Calls, commanded, linked}
use Rattle.paper.proofs.TableCounts.{Counts, fresh_counts, calls_count}
use Rattle.paper.proofs.Revoked.{issues, RestsOn}
use Rattle.paper.proofs.Revoking.{last_took, none_listed}
use Rattle.paper.proofs.Issuing.{command_new, link_new}
use Rattle.paper.proofs.Outlives.{entry_ends, outlives_entry, good_or_same}
use Rattle.paper.proofs.FreedRoom.{Requests, Assigns, request_good, never_answers_full, assign_answers_full as full-so}
use Rattle.paper.proofs.ProxyCount.{is_x}
use Rattle.paper.proofs.Demand3.{started_fresh, run_holds}
use Rattle.paper.specs.declared.state.Ground.TheVariants.{GroundX}
use Rattle.paper.specs.declared.state.Token.{Token}
use Rattle.paper.specs.declared.state.Row.{Row}
use Rattle.paper.specs.declared.state.Coordinator.{Coordinator}
use Rattle.paper.specs.declared.outcomes.Outcome.{Outcome}
use Rattle.paper.specs.declared.outcomes.Started.{Started}
use Rattle.paper.specs.declared.answers.Condition.TheVariants.{NoRoom}
use Rattle.paper.specs.declared.answers.Answer.TheVariants.{Good}

module _ (ids luns : List ℕ) (s : Started) (kept : SetupKept ids luns s) (ok : s.answer ≡ Good) where
  abbrev w : Setup
  w = setup_in ids luns

  counted : (c : Coordinator) (es : List Entry) → Calls s.state c es → Counts c
  counted c es calls =
      calls_count s.state (subst (λ x. Counts x) (sym (started_fresh ids luns s kept ok)) (fresh_counts w)) c es calls

  -- as the auditor put it: after a statement that ended tokens took effect, no X row of the list rests on one of them, for any initiator
  pub revoked_gone : (c : Coordinator) (x : Entry) (es : List Entry) → Calls s.state c (x ∷ es) → (e : Ending) → tokening (ended e) ∈ last_took w x es → (r : Row) → r ∈ reach_rows c → r.ground ≡ GroundX → (t : Token) × RestsOn w (took w (x ∷ es)) r t × (ends e t ≡ false)
  revoked_gone c x es calls e m r k g = none_listed w x es c e (run_holds ids luns s kept ok c (x ∷ es) calls) m r k g

  -- a number is not issued while it stands for a live token
  not_issued : (c : Coordinator) (x : Entry) (es : List Entry) → Calls s.state c (x ∷ es) → (n : ℕ) (t : Token) → token w (took w es) n ≡ Some t → any (issues n) (last_took w x es) ≡ false
  not_issued c x es (commanded {c = now} i cdb list random buffer calls k) n t live =
      subst
      (λ (o : Outcome). any (issues n) (last_took w (record { statement = command i cdb list random; answer = o.answer }) es) ≡ false)
      (sym k.0)
      (command_new w (took w es) now (run_holds ids luns s kept ok now es calls) n t live i cdb list random (length buffer) (decide_command now i cdb list random (length buffer)) refl)
  not_issued c x es (linked {r = r} i calls k) n t live =
      link_new w.luns (is_on (took w es)) n i r.answer

  -- "A token outlives its requester's own access (H).": after a statement that does not end it, it is live as it was
  pub outlives_in_run : (c : Coordinator) (x : Entry) (es : List Entry) → Calls s.state c (x ∷ es) → (n : ℕ) (t : Token) → entry_ends t x.statement ≡ false → token w (took w es) n ≡ Some t → token w (took w (x ∷ es)) n ≡ Some t
  outlives_in_run c x es calls n t spared live =
      outlives_entry w x es n t spared (not_issued c x es calls n t live) live

  -- so REVOKE, 08h, pages 02h and 03h and DISABLE alone end a token: a statement after which it is not live as it was is one of these that ends it, and was answered GOOD
  pub ended_by : (c : Coordinator) (x : Entry) (es : List Entry) → Calls s.state c (x ∷ es) → (n : ℕ) (t : Token) → token w (took w es) n ≡ Some t → (token w (took w (x ∷ es)) n ≡ Some t → ⊥) → (x.answer ≡ Good) × (entry_ends t x.statement ≡ true)
  ended_by c x es calls n t live gone = (
    ⊎_elim (λ g. g) (λ same. absurd (gone (subst (λ k. token w k n ≡ Some t) (sym same) live))) (good_or_same w x es),
    split (entry_ends t x.statement) (λ e. e) (λ e. absurd (gone (outlives_in_run c x es calls n t e live))),
  )

  module _ (c : Coordinator) (es : List Entry) (calls : Calls s.state c es) where
    abbrev h : History
    h = took w es

    -- a request with a usable number, for a LUN that opens by T or A, is GOOD while there is room: the number is issued, and its eight bytes are delivered
    pub freed_room : (i l : ℕ) → i < length w.transports → (cdb : List ℕ) (random room : ℕ) → Requests cdb l → 8 ≤ room → is_some (place_named w h i l) ≡ true → usable w h random ≡ true → issued_less_ended w h < 32 → decide_command c i cdb [] random room ≡ good (tokening (issued i l random) ∷ []) (be_bytes 8 random)
    freed_room i l there cdb random room =
        request_good w h c (run_holds ids luns s kept ok c es calls) i l there (counted c es calls).tokens cdb random room

    -- and, whether or not the LUN opens anything, and whether access controls are on or off, it never gets 55h/05h
    pub never_full : (i l : ℕ) → i < length w.transports → (cdb : List ℕ) (random room : ℕ) → Requests cdb l → usable w h random ≡ true → issued_less_ended w h < 32 → decide_command c i cdb [] random room ≡ check NoRoom → ⊥
    never_full i l there cdb random room =
        never_answers_full w h c (run_holds ids luns s kept ok c es calls) i l there (counted c es calls).tokens cdb random room

    -- ASSIGN is answered 55h/05h exactly when its other tests pass and the list has 32 X rows
    pub assign_answers_full : (i n l : ℕ) → i < length w.transports → (cdb list : List ℕ) (random room : ℕ) → Assigns cdb list n l → (decide_command c i cdb list random room ≡ check NoRoom) ↔ ((is_some (token w h n) ≡ true) × (lun_form l ≡ true) × (any (has_lun l) (rows_of c i) ≡ false) × (length (keep is_x (reach_rows c)) ≡ 32))
    assign_answers_full = full-so w h c (run_holds ids luns s kept ok c es calls) (counted c es calls)
