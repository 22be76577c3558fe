-- What is taken in of a chunk: what stands before the end of the line, as far as the line has room.
use Rattle.std.proofs.Common.{◌≡◌, ℕ, ◌+◌, ◌-◌, ◌≤◌, ◌<◌, List, ◌++◌, length, take, refl, sym, ap, ◌∙◌, arith}
use Rattle.std.specs.Prelude.{min, Bool, cond, Option, Some, None, is_some}
use mir.Val.{bool_byte}
use Rattle.std.specs.List.{position}
use Rattle.std.specs.Option.{unwrap_or}
use Rattle.std.proofs.Math.Seq.{take-append-add, take-append_seam}
use Rattle.std.proofs.lemmas.List.{length-take, length-take-le, take-append-le}
use lib.Seq.{take-take, take_all}
use lib.Dec.{leb}
use borrow.Author.Tests.{leb-true, leb-false}
use Rattle.lists.proofs.Tests.{split}
use Rattle.lists.specs.Lists.{any, place_of}
use Rattle.lists.proofs.Walk.{take_cap}
use Rattle.lists.proofs.Members.{place_any, place_within}
use borrow.Author.Tests.{lt-ltb, le-ltb}
use Rattle.journal.specs.Lines.{is_end}
use Rattle.journal.proofs.Runs.{position_none, position_some}

-- what goes on behind what was kept goes on behind what there was
pub cut_twice : (n : ℕ) (s t : List ℕ) {kept : List ℕ} → kept ≡ take n s → take n (kept ++ t) ≡ take n (s ++ t)
cut_twice n s t e =
    ap (λ x. take n (x ++ t)) e ∙ split_le n (length s)
    (λ h. take-append-le n (take n s) t (omega (arith, length-take n s)) ∙ (take-take n n s (omega arith) ∙ sym (take-append-le n s t h)))
    (λ h. ap (λ x. take n (x ++ t)) (take_all n s (omega arith)))
  where
    split_le : (a b : ℕ) {P : Type 0} → (a ≤ b → P) → (b < a → P) → P
    split_le a b f g = split (leb a b) (λ e. f (leb-true a b e)) (λ e. g (leb-false a b e))

-- the limit is a variable here, since a literal of its size is counted down in ones where two sides are compared
module _ (limit used kept : ℕ) (line bytes after : List ℕ) (fit : used ≤ length line) (few : used ≤ limit) (e : kept ≡ min (length bytes) (limit - used)) where
  front : length (take used line) ≡ used
  front = length-take-le used line fit

  cut : take kept bytes ≡ take (limit - used) bytes
  cut = take_cap bytes kept (limit - used) (length bytes) refl (omega (arith, e))

  whole : take (used + kept) (take used line ++ (take kept bytes ++ after)) ≡ take limit (take used line ++ bytes)
  whole =
      let m : length (take kept bytes) ≡ kept = length-take-le kept bytes (omega (arith, e)) in
      let a : used + kept ≡ length (take used line) + kept = omega (arith, front) in
      let b : limit ≡ length (take used line) + (limit - used) = omega (arith, front) in
      ap (λ n. take n (take used line ++ (take kept bytes ++ after))) a
      ∙ (take-append-add (take used line) (take kept bytes ++ after) kept
      ∙ (ap (λ s. take used line ++ s) (ap (λ n. take n (take kept bytes ++ after)) (sym m) ∙ (take-append_seam (take kept bytes) after ∙ cut))
      ∙ (sym (take-append-add (take used line) bytes (limit - used))
      ∙ ap (λ n. take n (take used line ++ bytes)) (sym b))))

pub filled : (limit used kept n place : ℕ) (line chunk copied after : List ℕ) → used ≤ length line → used ≤ limit → kept ≡ min (length (take n chunk)) (limit - used) → copied ≡ take kept (take n chunk) → n ≡ place → take (used + kept) (take used line ++ (copied ++ after)) ≡ take limit (take used line ++ take place chunk)
filled limit used kept n place line chunk copied after fit few e f g =
    ap (λ s. take (used + kept) (take used line ++ (s ++ after))) f
    ∙ (whole limit used kept line (take n chunk) after fit few e ∙ ap (λ n. take limit (take used line ++ take n chunk)) g)

-- what the code makes of the place of the end of the line
module _ (chunk : List ℕ) where
  pub taken_place : (end : Option ℕ) → end ≡ position is_end chunk → {n : ℕ} → n ≡ unwrap_or end (length chunk) → n ≡ place_of is_end chunk
  taken_place None e u = omega (arith, u, position_none is_end chunk (sym e), place_within is_end chunk)
  taken_place (Some k) e u = omega (arith, u, (position_some is_end chunk (sym e)).0)

  pub taken_whole : (end : Option ℕ) → end ≡ position is_end chunk → is_some end ≡ any is_end chunk
  taken_whole None e = sym (le-ltb (place_of is_end chunk) (length chunk) (position_none is_end chunk (sym e))) ∙ place_any is_end chunk
  taken_whole (Some k) e = sym (lt-ltb (place_of is_end chunk) (length chunk) (position_some is_end chunk (sym e)).1) ∙ place_any is_end chunk

  pub taken_read : (end : Option ℕ) → end ≡ position is_end chunk → {n : ℕ} {b : Bool} → n ≡ unwrap_or end (length chunk) → b ≡ is_some end → length (take n chunk) + bool_byte b ≡ cond b (place_of is_end chunk + 1) (length chunk)
  taken_read None e {n} u d = rw d (omega (arith, u, length-take n chunk))
  taken_read (Some k) e {n} u d = let at = position_some is_end chunk (sym e) in rw d (omega (arith, u, at, length-take n chunk))
