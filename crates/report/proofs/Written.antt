-- A loop that writes entries one after the other: what it has yet to write decides.
use Rattle.std.proofs.Common.{ℕ, suc, ◌+◌, ◌*◌, ◌<◌, ◌≤◌, ◌≡◌, List, length, take, drop, get_or, arith, drop-cons, add-one}
use Rattle.std.proofs.Math.Nat.{mul-le-mul_left, mul-suc}
use lib.ListN.{drop_of_length-le}
use Rattle.lists.specs.Lists.{◌∈◌, gather}
use Rattle.lists.proofs.Members.{in_get_or}
use Rattle.lists.specs.declared.Table.{Table}
use Rattle.lists.specs.Tables.{filled}
use Rattle.lists.proofs.Tables.{take_pad}
use denote.Ref.{Bor, MutBor}
use Rattle.report.specs.Each.{Writer, Fits, WritesEach}
use Rattle.wire.specs.Write.{writes, Wrote}
use Rattle.wire.proofs.Writing.{Left, left_step, left_end}

-- ---- room for one more
pub one_more : (at most : ℕ) {k n to : ℕ} → to ≤ at + most * k → k < n → at + most * n ≤ 4294967296 → to + most ≤ 4294967296
one_more at most {k} {n} {to} near h room =
    omega (arith, near, room, mul-suc most k, mul-le-mul_left {m = suc k} {n = n} most h)

pub ends_more : (at most k : ℕ) {to next : ℕ} → to ≤ at + most * k → next ≤ to + most → next ≤ at + most * (k + 1)
ends_more at most k {to} {next} near h = rw add-one (omega (arith, near, h, mul-suc most k))

-- ---- the entry at a place, and those behind it
module _ {A : Type 0} (l : List A) {k : ℕ} {x : A} (h : k < length l) (is : x ≡ get_or l k x) where
  pub entry_in : x ∈ l
  entry_in = rw is (in_get_or x l k h)

  pub left_more : (bytes : A → List ℕ) {limit at next total : ℕ} {old new final : List ℕ} → Left limit at (gather bytes (drop k l)) old total final → Wrote limit at (bytes x) old next new → Left limit next (gather bytes (drop (k + 1) l)) new total final
  left_more bytes s w = left_step (rw (drop-cons l k x h, ← is, add-one k)) s w

pub left_none : {A : Type 0} (bytes : A → List ℕ) (l : List A) {k limit at to : ℕ} {old new : List ℕ} → length l ≤ k → Left limit to (gather bytes (drop k l)) new (at + length (gather bytes l)) (writes limit at (gather bytes l) old) → Wrote limit at (gather bytes l) old to new
left_none bytes l {k} h s = left_end (rw (drop_of_length-le l {i = k} h)) s

pub all_passed : {k n : ℕ} → k ≤ n → n ≤ k → k ≡ n
all_passed h m = omega arith

-- ---- what one writer wrote has so many bytes at most
pub ends_by : {limit at next most : ℕ} {xs old new : List ℕ} → Wrote limit at xs old next new → length xs ≤ most → next ≤ at + most
ends_by w h = omega (arith, w.ended, h)

-- what a writer writes of an entry has so many bytes at most
pub fits_by : {F A : Type 0} {g : Writer F A} {f : F} {at : ℕ} {xs : List A} (most : ℕ) (bytes : A → List ℕ) (limit : ℕ) → at + most * length xs ≤ 4294967296 → ((buf : MutBor (List ℕ)) (to : ℕ) (x : Bor A) → x.now ∈ xs → to + most ≤ 4294967296 → g.pre f (buf, (to, (x, tt)))) → WritesEach g f limit bytes xs → ((x : A) → length (bytes x) ≤ most) → Fits g f at xs
fits_by most bytes limit room takes writes short =
    record {
      most = most;
      room = room;
      takes = takes;
      ends = λ buf left to next x m p. ends_by (writes buf left to next x m p) (short x.now);
    }

-- what of a table that holds a list is in use
pub listed : {A : Type 0} {n : ℕ} (blank : A) {xs : List A} {t : Table A n} → t ≡ filled blank n xs → take t.count t.items ≡ xs
listed {n = n} blank {xs} e = rw e (take_pad blank n xs)
