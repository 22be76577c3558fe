-- What is written at the start of a buffer, and copied to the start of another, stands there; what is written behind a place leaves what stands before it. So the buffers of an audit hold what it keeps.
use Prim.Native.Nat.{ℕ, suc, ◌+◌, ◌≤◌}
use mathlib.Core.Path.{◌≡◌, refl, sym, ap, ap₂, ◌∙◌}
use mathlib.Core.List.{List, [], ◌∷◌, ◌++◌, append_assoc, append-nil}
use mathlib.Core.Bool.{Bool, true, cond, ◌&&◌}
use native.Mathlib.Omega.{arith}
use lib.ListN.{length, take, set, length-take, length-set, length-append}
use lib.Seq.{take_all, take_at, take-take, take-set-le, take-suc-set}
use lib.Dec.{ltb, leb}
use borrow.Author.Tests.{lt-ltb, le-leb, leb-true}
use Rattle.lists.specs.Bytes.{deliver}
use Rattle.lists.proofs.Deliver.{take_deliver}
use Rattle.lists.proofs.Tests.{split, both, and_true}
use Rattle.wire.specs.Write.{put_at, writes, Wrote}
use Rattle.wire.proofs.Writing.{delivered}
use Rattle.paper.specs.declared.state.Coordinator.{Coordinator}
use Rattle.audit.specs.Ledger.{deed_bytes, forgotten, rows_after, stands_after, ends_after}
use Rattle.audit.specs.Following.{Kept, kept_in, fits, counted_from, changed_by}
use Rattle.audit.specs.Room.{Within}
use Rattle.audit.specs.declared.ledger.Deed.{Deed}
use Rattle.audit.specs.declared.following.Inquiry.{Inquiry}
use Rattle.audit.specs.declared.ledger.Grounds.{Grounds}

-- ---- at the start of a buffer: a text that fits is there whole
stands_there : (limit e : ℕ) (xs b₀ b₁ : List ℕ) → Wrote limit 0 xs b₀ e b₁ → e ≤ limit → limit ≡ length b₀ → take e b₁ ≡ xs
stands_there limit e xs b₀ b₁ w fits long =
    let size : e ≡ length xs = omega (arith, w.ended) in
    let all : take limit xs ≡ xs = take_all limit xs (omega arith) in
    ap (take e) (delivered w ∙ ap (λ l. deliver l b₀) all)
    ∙ (ap (λ n. take n (deliver xs b₀)) size ∙ (take_deliver xs b₀ (length xs) (omega arith) (omega arith) ∙ take_all (length xs) xs (omega arith)))

-- ---- behind a place
front_kept : (limit at : ℕ) (xs buf : List ℕ) → take at (writes limit at xs buf) ≡ take at buf
unfolding writes put_at
front_kept limit at [] buf = refl
front_kept limit at (x ∷ xs) buf =
    let b = put_at limit at x buf in
    sym (take-take at (suc at) (writes limit (suc at) xs b) (omega arith))
    ∙ (ap (take at) (front_kept limit (suc at) xs b)
    ∙ (take-take at (suc at) b (omega arith) ∙ both (λ (l : List ℕ). take at l ≡ take at buf) (ltb at limit) (take-set-le at buf at x (omega arith)) refl))

appended : (limit at : ℕ) (xs buf : List ℕ) → at + length xs ≤ limit → at + length xs ≤ length buf → take (at + length xs) (writes limit at xs buf) ≡ take at buf ++ xs
unfolding writes put_at
appended limit at [] buf h g =
    let none : at + 0 ≡ at = omega arith in ap (λ n. take n buf) none ∙ sym (append-nil (take at buf))
appended limit at (x ∷ xs) buf h g =
    let more : at + suc (length xs) ≡ suc at + length xs = omega arith in
    rw (lt-ltb at limit (omega (arith, h)))
    (ap (λ n. take n (writes limit (suc at) xs (set buf at x))) more
    ∙ (appended limit (suc at) xs (set buf at x) (omega (arith, h)) (omega (arith, g, length-set buf at x))
    ∙ (ap (λ l. l ++ xs) (take-suc-set buf at x (omega (arith, g))) ∙ append_assoc (take at buf) (x ∷ []) xs)))

-- ---- what an audit keeps after a line, in its buffers
abbrev kept_of : List ℕ → List ℕ → Kept
kept_of standing ended = record { standing = standing; ended = ended }

module _ (q : Inquiry) (d : Deed) (c : Coordinator) (before : Grounds) (standing₀ ended₀ : List ℕ) where
  abbrev was : Kept
  was = kept_in before standing₀ ended₀

  abbrev ends : List ℕ
  ends = ends_after (take before.standing standing₀) (forgotten d.what (rows_after c)) (deed_bytes d) q.to

  abbrev stood : List ℕ
  stood = stands_after q.unit (forgotten d.what (take before.standing standing₀)) (rows_after c) (deed_bytes d)

  -- those that ended, and how many bytes they are
  module _ {e : ℕ} {ended₁ : List ℕ} (w : Wrote (length ended₀) before.ended ends ended₀ e ended₁) (within : before.ended ≤ length ended₀) {past : ℕ} (so : past ≡ cond (ltb d.line q.from) before.ended e) where
    ended_size_lem : length (changed_by q d c was).ended ≡ past
    unfolding changed_by counted_from
    ended_size_lem =
        split (ltb d.line q.from)
        (λ early. rw early (simp length-append (omega (arith, rw early at so, length-take before.ended ended₀))))
        (λ late. rw late (simp length-append (omega (arith, rw late at so, w.ended, length-take before.ended ended₀))))

    ended_there : past ≤ length ended₀ → take past ended₁ ≡ (changed_by q d c was).ended
    unfolding changed_by counted_from
    ended_there fit =
        split (ltb d.line q.from)
        (λ early.
        rw early
        (ap (λ n. take n ended₁) (rw early at so)
        ∙ (ap (take before.ended) w.holds ∙ (front_kept (length ended₀) before.ended ends ended₀ ∙ sym (append-nil (take before.ended ended₀))))))
        (λ late.
        let size : past ≡ before.ended + length ends = (rw late at so) ∙ w.ended in
        rw late
        (ap (λ n. take n ended₁) size
        ∙ (ap (take (before.ended + length ends)) w.holds ∙ appended (length ended₀) before.ended ends ended₀ (omega (arith, size)) (omega (arith, size)))))

    -- with those that stand: whether there is room, and that they are there
    module _ {limit stands : ℕ} {next₀ next₁ : List ℕ} (s : Wrote limit 0 stood next₀ stands next₁) where
      standing_size_lem : stands ≡ length (changed_by q d c was).standing
      unfolding changed_by
      standing_size_lem = omega (arith, s.ended)

      pub fits_so : {b : Bool} → b ≡ (leb stands 65536 && leb past 393216) → b ≡ fits (changed_by q d c was)
      unfolding fits
      fits_so e = e ∙ ap₂ (λ (m n : ℕ). leb m 65536 && leb n 393216) standing_size_lem (sym ended_size_lem)

      -- what stands is copied to the start of its buffer
      pub kept_so : stands ≤ limit → limit ≡ length next₀ → {copy : List ℕ} (after : List ℕ) → copy ≡ take stands next₁ → past ≤ length ended₀ → kept_in (record { standing = stands; ended = past }) (copy ++ after) ended₁ ≡ changed_by q d c was
      unfolding changed_by
      kept_so few long {copy} after same room =
          let whole = stands_there limit stands stood next₀ next₁ s few long in
          let size : length copy ≡ stands = omega (arith, ap length same, ap length whole, s.ended) in
          ap₂ (λ (x y : List ℕ). kept_of x y) (take_at copy after stands size ∙ same ∙ whole) (ended_there room)

pub ended_room : {g : Grounds} (ended : List ℕ) → Within g → length ended ≡ 393216 → g.ended ≤ length ended
ended_room ended w long = omega (arith, w.ended_fits)

pub room_for : {b : Bool} (m n : ℕ) → b ≡ (leb m 65536 && leb n 393216) → b ≡ true → (m ≤ 65536) × (n ≤ 393216)
room_for {b} m n e there =
    let (few, room) = and_true (leb m 65536) (leb n 393216) (sym e ∙ there) in
    (leb-true m 65536 few, leb-true n 393216 room)

pub within_fits : {g : Grounds} → Within g → (standing ended : List ℕ) → fits (kept_in g standing ended) ≡ true
unfolding fits
within_fits {g} w standing ended =
    rw (le-leb (length (take g.standing standing)) 65536 (omega (arith, length-take g.standing standing, w.standing_fits)), le-leb (length (take g.ended ended)) 393216 (omega (arith, length-take g.ended ended, w.ended_fits)))
