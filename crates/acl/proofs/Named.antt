-- Texts from the parts that are written: LUACDs one by one, what an ACE holds, a unit, an initiator.
use Rattle.std.proofs.Common.{ℕ, ◌+◌, ◌*◌, ◌≤◌, ◌<◌, ◌≡◌, ap, List, [], ◌++◌, map, length, get_or, take, drop, drop-cons, add-one, arith}
use mathlib.Core.Path.{ap₂, ◌∙◌}
use mathlib.Core.List.{append-nil}
use lib.ListN.{drop_of_length-le, get_or-map}
use lib.Seq.{take_all}
use Rattle.lists.specs.Lists.{gather, parts}
use Rattle.lists.specs.Order.{sort}
use Rattle.lists.specs.Bytes.{deliver}
use Rattle.lists.proofs.Parts.{get_or_parts}
use Rattle.lists.proofs.Places.{between, between_cons}
use Rattle.wire.specs.Write.{Wrote}
use Rattle.wire.proofs.Writing.{delivered}
use Rattle.paper.specs.Contents.{Enrolment, not_enrolled}
use Rattle.paper.specs.Tables.{content_by, content_of, enrolment_in}
use Rattle.paper.specs.Reports.{luacd_before}
use Rattle.paper.specs.declared.state.Extent.TheVariants.{Listed, Everything}
use Rattle.paper.specs.declared.state.Luacd.{Luacd}
use Rattle.paper.specs.declared.state.Ace.{Ace}
use Rattle.acl.specs.Words.{everything_text}
use Rattle.acl.specs.State.{initiator_line, luacd_text, luacds_text, content_text}

-- a buffer that is written from its start to its end
pub all_written : {limit e : ℕ} {xs old new : List ℕ} → Wrote limit 0 xs old e new → length xs ≡ limit → length old ≡ limit → new ≡ xs
unfolding deliver
all_written {limit} {e} {xs} {old} w h k =
    delivered w
    ∙ rw (take_all limit xs (omega arith), take_all (length old) xs (omega arith), drop_of_length-le old {i = length xs} (omega arith), append-nil)

-- ---- LUACDs: the one at a place and the rest, or none
module _ (l : List Luacd) {k : ℕ} where
  pub luacds_next : (p : Luacd) → k < length l → luacds_text k (drop k l) ≡ luacd_text k (get_or l k p) ++ luacds_text (k + 1) (drop (k + 1) l)
  unfolding luacds_text
  luacds_next p h = rw (drop-cons l k p h, add-one k)

  pub luacds_none : length l ≤ k → luacds_text k (drop k l) ≡ []
  unfolding luacds_text
  luacds_none h = rw (drop_of_length-le l {i = k} h)

-- ---- lines for the numbers from one on: that of the first and the rest
pub lines_next : (line : ℕ → List ℕ) (i n : ℕ) → i < n → gather line (between i n) ≡ line i ++ gather line (between (i + 1) n)
lines_next line i n h = rw (between_cons i n h)

-- ---- what an ACE holds
module _ (a : Ace) where
  pub content_listed : a.extent ≡ Listed → content_text (content_of a) ≡ luacds_text 0 (sort luacd_before (take a.count a.luacds))
  unfolding content_text
  content_listed x = ap (λ k. content_text (content_by k (take a.count a.luacds))) x

  pub content_everything : a.extent ≡ Everything → content_text (content_of a) ≡ everything_text
  unfolding content_text
  content_everything x = ap (λ k. content_text (content_by k (take a.count a.luacds))) x

-- ---- an initiator, from its parts of the two tables
pub initiator_at : (n : ℕ) (ids bytes : List ℕ) (i : ℕ) → i < n → initiator_line i (get_or (parts 24 n ids) i []) (get_or (map enrolment_in (parts 25 n bytes)) i not_enrolled) ≡ initiator_line i (take 24 (drop (24 * i) ids)) (enrolment_in (take 25 (drop (25 * i) bytes)))
initiator_at n ids bytes i h =
    ap₂ (λ (id : List ℕ) (e : Enrolment). initiator_line i id e) (get_or_parts 24 n ids i [] h)
    (get_or-map enrolment_in (parts 25 n bytes) i [] ∙ ap enrolment_in (get_or_parts 25 n bytes i [] h))
