-- What a report answers: refusal 6 and an untouched buffer, or GOOD with the bytes in it.
use Prim.Native.Nat.{ℕ, suc, min, ◌+◌, ◌-◌, ◌*◌, ◌/◌, ◌≤◌, ◌<◌}
use mathlib.Core.Path.{◌≡◌, refl, ap, sym, ◌∙◌}
use mathlib.Core.List.{List, [], ◌∷◌, ◌++◌, append_assoc}
use mathlib.Core.Bool.{Bool, true, false, cond}
use native.Mathlib.Omega.{arith}
use lib.ListN.{length, take, set, length-append}
use lib.Seq.{take_all, set_comm}
use lib.Dec.{ltb}
use mir.Val.{bool_byte}
use borrow.Author.Tests.{lt-ltb, le-ltb}
use Rattle.lists.specs.Lists.{gather}
use Rattle.lists.specs.Bytes.{be_bytes, deliver}
use Rattle.lists.proofs.Walk.{take_cap}
use Rattle.lists.proofs.Parts.{length_gather}
use Rattle.wire.specs.Write.{put_at, writes, Wrote}
use Rattle.wire.proofs.Writing.{delivered, writes_append}
use Rattle.paper.specs.Applied.{applied_all}
use Rattle.paper.specs.Reports.{reach_rows, row_bytes, reach_bytes, report_pages, report_bytes}
use Rattle.paper.specs.Outcomes.{good, in_room, handed_back, outcome_of, buffer_after}
use Rattle.paper.specs.declared.answers.Answer.TheVariants.{Good, Refused}
use Rattle.paper.specs.declared.answers.Refusal.TheVariants.{ShortBuffer}
use Rattle.paper.specs.declared.outcomes.Outcome.{Outcome}
use Rattle.paper.specs.declared.state.Coordinator.{Coordinator}
use Rattle.report.proofs.PageSizes.{length_header}

module _ (c : Coordinator) (bytes buffer : List ℕ) where
  pub too_short : {r : Outcome} → length buffer < length bytes → r ≡ handed_back c (Refused ShortBuffer) 0 → (r ≡ outcome_of c (in_room (length buffer) (good [] bytes))) × (buffer ≡ buffer_after (in_room (length buffer) (good [] bytes)) buffer)
  too_short h e = rw (lt-ltb (length buffer) (length bytes) h) (e, refl)

  pub made : {r : Outcome} {new : List ℕ} → length bytes ≤ length buffer → r ≡ handed_back c Good (length bytes) → new ≡ deliver bytes buffer → (r ≡ outcome_of c (in_room (length buffer) (good [] bytes))) × (new ≡ buffer_after (in_room (length buffer) (good [] bytes)) buffer)
  unfolding applied_all
  made h e d = rw (le-ltb (length buffer) (length bytes) h) (e, d)

-- ---- bytes that are written in front of others that stand already are as if written before them
put_apart : (limit i x j y : ℕ) (buf : List ℕ) → i < j → put_at limit i x (put_at limit j y buf) ≡ put_at limit j y (put_at limit i x buf)
unfolding put_at
put_apart limit i x j y buf h = go (ltb i limit) (ltb j limit)
  where
    go : (a b : Bool) → cond a (set (cond b (set buf j y) buf) i x) (cond b (set buf j y) buf) ≡ cond b (set (cond a (set buf i x) buf) j y) (cond a (set buf i x) buf)
    go true true = set_comm buf j i y x (omega arith)
    go true false = refl
    go false true = refl
    go false false = refl

put_first : (limit i x at : ℕ) (ys buf : List ℕ) → i < at → put_at limit i x (writes limit at ys buf) ≡ writes limit at ys (put_at limit i x buf)
unfolding writes
put_first limit i x at [] buf h = refl
put_first limit i x at (y ∷ ys) buf h =
    put_first limit i x (suc at) ys (put_at limit at y buf) (omega arith) ∙ ap (writes limit (suc at) ys) (put_apart limit i x at y buf h)

writes_first : (limit at k : ℕ) (xs ys buf : List ℕ) → at + length xs ≤ k → writes limit at xs (writes limit k ys buf) ≡ writes limit k ys (writes limit at xs buf)
unfolding writes
writes_first limit at k [] ys buf h = refl
writes_first limit at k (x ∷ xs) ys buf h =
    ap (writes limit (suc at) xs) (put_first limit at x k ys buf (omega arith)) ∙ writes_first limit (suc at) k xs ys (put_at limit at x buf) (omega arith)

pub in_front : {limit at k m e : ℕ} {xs ys b₀ b₁ b₂ : List ℕ} → k ≡ at + length xs → Wrote limit k ys b₀ e b₁ → Wrote limit at xs b₁ m b₂ → Wrote limit at (xs ++ ys) b₀ e b₂
in_front {limit} {at} {k} {m} {e} {xs} {ys} {b₀} {b₁} {b₂} q w v =
    record {
      ended = omega (arith, q, w.ended, length-append xs ys);
      holds = v.holds ∙ ap (writes limit at xs) w.holds ∙ writes_first limit at k xs ys b₀ (omega (arith, q))
          ∙ ap (λ (i : ℕ). writes limit i ys (writes limit at xs b₀)) q ∙ sym (writes_append limit at xs ys b₀);
    }

-- the reach list is its head and its rows
pub reach_whole : (c : Coordinator) {limit n e : ℕ} {b₀ b₁ : List ℕ} → n ≡ length (reach_rows c) → length (reach_bytes c) ≤ limit → Wrote limit 0 ((be_bytes 4 (4 + 4 * n) ++ (0x01 ∷ (cond c.enabled 0x01 0x00 ∷ be_bytes 2 n))) ++ gather row_bytes (reach_rows c)) b₀ e b₁ → b₁ ≡ deliver (reach_bytes c) b₀
unfolding reach_bytes
reach_whole c {limit} {n} {e} {b₀} {b₁} many size w =
    let v : Wrote limit 0 (reach_bytes c) b₀ e b₁ = rw (many, append_assoc) at w in
    delivered v ∙ rw (take_all limit (reach_bytes c) size)

-- where its rows end tells how many they are
pub rows_end : (c : Coordinator) {e : ℕ} → e ≡ 8 + length (gather row_bytes (reach_rows c)) → (e ≡ 8 + 4 * length (reach_rows c)) × ((e - 8) / 4 ≡ length (reach_rows c))
unfolding row_bytes
rows_end c h =
    let four = length_gather row_bytes 4 (reach_rows c) (λ r m. refl) in
    (omega (arith, h, four), omega (arith, h, four))

-- REPORT ACL is its header and its pages, of which the first are delivered
pub report_whole : (c : Coordinator) (m : ℕ) {limit n e : ℕ} {b₀ b₁ : List ℕ} → n ≡ 4 + length (report_pages c) → limit ≡ min m (4 + n) → Wrote limit 0 ((be_bytes 4 n ++ be_bytes 4 c.generation) ++ report_pages c) b₀ e b₁ → b₁ ≡ deliver (take m (report_bytes c)) b₀
unfolding report_bytes
report_whole c m {limit} {n} {e} {b₀} {b₁} many size w =
    let v : Wrote limit 0 (report_bytes c) b₀ e b₁ = rw (many, append_assoc) at w in
    delivered v ∙ rw (take_cap (report_bytes c) limit m (4 + n) (omega (arith, length_header c)) size)

-- a switch as a byte
pub switch_byte : (on : Bool) → bool_byte on ≡ cond on 0x01 0x00
switch_byte true = refl
switch_byte false = refl
