-- A setup that fills the tables is kept as it is listed, so that the rules may be asked of the tables.
use Prim.Native.Nat.{ℕ, zero, suc, ◌+◌, ◌*◌, ◌/◌, ◌%◌, ◌≤◌, ◌<◌}
use mathlib.Core.Path.{◌≡◌, refl, ap, sym, ◌∙◌}
use mathlib.Core.List.{List, [], ◌∷◌, map}
use mathlib.Core.Bool.{true, false}
use native.Mathlib.Omega.{arith}
use native.Mathlib.Nat.{add-zero, zero-add}
use lib.ListN.{length, drop, get_or, replicate, length-map, get_or-map}
use lib.Seq.{take_all}
use lib.Dec.{eqb, leb}
use borrow.Author.Tests.{eqb-true, leb-true, le-leb}
use Rattle.lists.specs.Lists.{all, gather, parts}
use Rattle.lists.specs.Bytes.{be}
use Rattle.lists.proofs.Tests.{split, clashes, and_true}
use Rattle.lists.proofs.Parts.{length_parts, get_or_parts, gather_parts}
use Rattle.lists.specs.Tables.{pad}
use Rattle.lists.proofs.Bytes.{be_drop, be_take, be_out}
use Rattle.wire.specs.Lun.{head_of, lun_form}
use lib.ListN.{get_or-eq_default, length-append}
use lib.Seq.{take_at, drop_at, ext_get_or}
use mathlib.Core.Path.{subst}
use mathlib.Core.List.{◌++◌}
use native.Mathlib.Decide.{dec_lt}
use denote.Param.Members.{Mut}
use Rattle.std.specs.Fn.{Called}
use Rattle.std.specs.Array.{IsFromFnResult, IsFromFnResultFrom}
use Rattle.std.proofs.lemmas.List.{drop-replicate}
use Rattle.std.proofs.lemmas.Iterator.{YieldsList}
use Rattle.std.proofs.lemmas.Iterator.Splits.{YieldsList-from_shown_while}
use Rattle.lists.proofs.Tables.{get_or_everywhere, length_pad}
use Rattle.std.specs.Slice.Iter.{chunks_exact_size, chunks_exact_rest, chunks_exact_steps}
use Rattle.paper.specs.Identifiers.{kept}
use Rattle.paper.specs.Setup.{ids_in, luns_in, whole_lun, setup_in, accepted}
use Rattle.paper.specs.Tables.{initiator_table, unit_table}
use Rattle.paper.specs.Fresh.{nothing, fresh, started_with, started}
use Rattle.paper.specs.Standing.{setup_kept}
use Rattle.paper.specs.declared.state.IdType.TheVariants.{TransportId}
use Rattle.paper.specs.declared.answers.Refusal.TheVariants.{BadSetup}
use Rattle.paper.specs.declared.answers.Answer.TheVariants.{Good, Refused}
use Rattle.paper.proofs.Getters.{fresh_units, fresh_transports}
use Rattle.paper.proofs.Luns.{luns_whole}
use Rattle.paper.proofs.SetupApart.{setup_apart}
use Rattle.paper.proofs.SetupBytes.{accepted_so, kept_parts, ids_kept}
use Rattle.paper.proofs.NothingChanged.{good_setup, bad_setup}
use Rattle.coordinator.specs.Forms.{fills}

-- ---- the LUNs that are listed
pub length_luns : (s : List ℕ) → length (luns_in s) ≡ length s / 8
unfolding luns_in
length_luns s = simp (length-map, length_parts)

pub lun_at : (s : List ℕ) (k : ℕ) → k < length s / 8 → get_or (luns_in s) k 0 ≡ be 8 s (8 * k)
unfolding luns_in
lun_at s k h =
    ap (get_or (map whole_lun (parts 8 (length s / 8) s)) k) (sym (be_out 8 [] 0 (omega arith)))
    ∙ get_or-map whole_lun (parts 8 (length s / 8) s) k []
    ∙ rw (get_or_parts 8 (length s / 8) s k [] h, be_take 8 (drop (8 * k) s) 0 8 (omega arith), be_drop 8 s 0 (8 * k), add-zero)

pub head_at : (s : List ℕ) (k : ℕ) → k < length s / 8 → get_or (map head_of (luns_in s)) k 0 ≡ head_of (be 8 s (8 * k))
head_at s k h = get_or-map head_of (luns_in s) k 0 ∙ ap head_of (lun_at s k h)

-- ---- the TransportIDs that are listed
gather_kept : (l : List (List ℕ)) → gather (kept TransportId) l ≡ gather (λ p. p) (map (kept TransportId) l)
gather_kept [] = refl
gather_kept (x ∷ l) = rw (gather_kept l)

pub ids_gathered : (s : List ℕ) → length s % 24 ≡ 0 → gather (kept TransportId) (ids_in s) ≡ s
unfolding ids_in
ids_gathered s h =
    let n = length s / 24 in
    gather_kept (parts 24 n s)
    ∙ (ap (gather (λ p. p)) (kept_parts n s (omega arith)) ∙ (gather_parts 24 n s ∙ take_all (24 * n) s (omega arith)))

pub length_ids : (s : List ℕ) → length (ids_in s) ≡ length s / 24
unfolding ids_in
length_ids s = length_parts 24 (length s / 24) s

-- ---- the tables
pub initiators_built : (s : List ℕ) → length s % 24 ≡ 0 → record { count = length s / 24; ids = s ++ drop (length s) (replicate 384 0); enrolments = replicate 400 0 } ≡ initiator_table (ids_in s)
initiators_built s h = rw (drop-replicate {X = ℕ} (length s) 384 0, length_ids s, ids_gathered s h)

-- the numbers that calls gave, where each call is that of one function
made : {F : Type 0} (g : Mut F (ℕ × Unit {0}) ℕ) (f : F) (h : ℕ → ℕ) → ((x b : ℕ) (q : F) → Called g f (x, tt) b q → (q ≡ f) × (b ≡ h x)) → (ys : List ℕ) (i n : ℕ) → IsFromFnResultFrom g f ys i n → (k : ℕ) → k < n → get_or ys (i + k) 0 ≡ h (i + k)
made g f h pure ys i zero r k l = absurd (omega arith)
made g f h pure ys i (suc n) (q, y, e, called, rest) zero l = rw add-zero (e.1 0 ∙ (pure i y q called).1)
made g f h pure ys i (suc n) (q, y, e, called, rest) (suc k) l =
    let there : i + suc k ≡ i + 1 + k = omega arith in
    rw there (made g f h pure ys (i + 1) n (subst (λ p. IsFromFnResultFrom g p ys (i + 1) n) (pure i y q called).0 rest) k (omega arith))

-- past the last LUN the heads are 0
head_there : (s : List ℕ) (k : ℕ) → length s % 8 ≡ 0 → Dec (k < length s / 8) → get_or (map head_of (luns_in s)) k 0 ≡ head_of (be 8 s (8 * k))
head_there s k whole (yes h) = head_at s k h
head_there s k whole (no h) =
    get_or-eq_default (map head_of (luns_in s)) 0 {n = k} (simp length-map (omega (arith, length_luns s)))
    ∙ ap head_of (sym (be_out 8 s (8 * k) (omega arith)))

pub units_built : {F : Type 0} (g : Mut F (ℕ × Unit {0}) ℕ) (f : F) (s heads : List ℕ) → length s % 8 ≡ 0 → length s ≤ 256 → ((k b : ℕ) (q : F) → Called g f (k, tt) b q → (q ≡ f) × (b ≡ head_of (be 8 s (8 * k)))) → IsFromFnResult g f heads 32 → record { count = length s / 8; luns = heads } ≡ unit_table (map head_of (luns_in s))
units_built g f s heads whole few pure given =
    let l = map head_of (luns_in s) in
    let many : length l ≡ length s / 8 = simp length-map (length_luns s) in
    let each : (k : ℕ) → k < length heads → get_or heads k 0 ≡ get_or (pad 0 32 l) k 0 =
    λ k lt. rw zero-add at (made g f (λ i. head_of (be 8 s (8 * i))) pure heads 0 32 given.each k (omega (arith, given.long)))
    ∙ sym (get_or_everywhere 0 32 l k ∙ head_there s k whole (dec_lt k (length s / 8))) in
    let padded : heads ≡ pad 0 32 l = ext_get_or 0 heads (pad 0 32 l) (given.long ∙ sym (length_pad 0 32 l (omega (arith, many)))) each in
    rw (padded, many)

-- ---- the LUNs, one after the other
luns_cons : (x rest : List ℕ) → length x ≡ 8 → luns_in (x ++ rest) ≡ be 8 x 0 ∷ luns_in rest
unfolding luns_in parts
luns_cons x rest h =
    let e : length (x ++ rest) / 8 ≡ suc (length rest / 8) = simp length-append (omega arith) in
    rw (e, take_at x rest 8 h, drop_at x rest 8 h)

pub luns_yielded : {s : _} (l : List ℕ) → chunks_exact_size s ≡ 8 → chunks_exact_rest s ≡ l → YieldsList chunks_exact_steps (λ x. be 8 x.now 0) s (luns_in l)
luns_yielded {s} l e f =
    rw (← f)
    (YieldsList-from_shown_while
    chunks_exact_steps
    (λ x. be 8 x.now 0)
    (λ t. luns_in (chunks_exact_rest t))
    (λ t. chunks_exact_size t ≡ 8)
    (λ t u p h. omega (arith, length_luns (chunks_exact_rest t), h.1.0, p))
    (λ t x u p h. (h.0 ∙ p, ap luns_in h.1.0 ∙ luns_cons x.now (chunks_exact_rest u) (h.1.1 ∙ p)))
    s
    e)

-- ---- a setup that fills the tables
pub record Filling (ids luns : List ℕ) : Type 0 where
  pub whole_ids : length ids % 24 ≡ 0
  pub whole_luns : length luns % 8 ≡ 0
  pub few_ids : length ids ≤ 384
  pub few_luns : length luns ≤ 256
  pub formed : all lun_form (luns_in luns) ≡ true

module _ (ids luns : List ℕ) where
  pub filling : fills ids luns ≡ true → Filling ids luns
  unfolding fills
  filling h =
      let a = and_true (eqb (length ids % 24) 0) _ h in
      let b = and_true (eqb (length luns % 8) 0) _ a.1 in
      let d = and_true (leb (length ids) 384) _ b.1 in
      let e = and_true (leb (length luns) 256) _ d.1 in
      record {
        whole_ids = eqb-true _ _ a.0;
        whole_luns = eqb-true _ _ b.0;
        few_ids = leb-true _ _ d.0;
        few_luns = leb-true _ _ e.0;
        formed = e.1;
      }

  accepted_fills : accepted ids luns ≡ true → fills ids luns ≡ true
  unfolding fills
  accepted_fills h =
      let a = accepted_so ids luns h in
      let r = setup_apart (ids_in ids) (luns_in luns) a.rules in
      let p : length ids ≤ 384 = omega (arith, a.whole_ids, r.few_ids, length_ids ids) in
      let q : length luns ≤ 256 = omega (arith, a.whole_luns, r.few_luns, length_luns luns) in
      rw (a.whole_ids, a.whole_luns, le-leb _ _ p, le-leb _ _ q, r.forms)

  kept_accepted : fills ids luns ≡ true → setup_kept (fresh (setup_in ids luns)) ≡ accepted ids luns
  unfolding setup_kept accepted
  kept_accepted h =
      let f = filling h in
      rw (
        fresh_transports (setup_in ids luns),
        ids_kept ids f.whole_ids,
        fresh_units (setup_in ids luns),
        luns_whole (luns_in luns) f.formed,
        f.whole_ids,
        f.whole_luns,
      )

  -- ---- what is started
  pub unfilled : fills ids luns ≡ false → started ids luns ≡ started_with nothing (Refused BadSetup)
  unfilled h =
      bad_setup ids luns (split (accepted ids luns) (λ p. clashes (accepted_fills p) h) (λ p. p))

  pub unkept : fills ids luns ≡ true → setup_kept (fresh (setup_in ids luns)) ≡ false → started ids luns ≡ started_with nothing (Refused BadSetup)
  unkept h k = bad_setup ids luns (sym (kept_accepted h) ∙ k)

  pub begun : fills ids luns ≡ true → setup_kept (fresh (setup_in ids luns)) ≡ true → started ids luns ≡ started_with (setup_in ids luns) Good
  begun h k = good_setup ids luns (sym (kept_accepted h) ∙ k)
