-- Laws of the first line and the answer: who is named, the names joined, what the parts take.
use Prim.Native.Nat.{ℕ, ◌+◌, ◌≤◌}
use mathlib.Core.List.{List, [], ◌∷◌, ◌++◌}
use Rattle.std.specs.Prelude.{Option, Some, None}
use mathlib.Core.Bool.{Bool, true, false, cond}
use native.Mathlib.Omega.{arith}
use lib.Dec.{eqb, ltb}
use lib.ListN.{length, take, get_or, length-append, length-take}
use Rattle.lists.specs.Lists.{keep, below}
use Rattle.lists.proofs.Members.{length_keep}
use Rattle.lists.proofs.Parts.{length_count}
use Rattle.lists.proofs.Sums.{gather_most}
use Rattle.journal.specs.Texts.{decimal_text, comma_text}
use Rattle.journal.proofs.Told.{either_most, decimal_most}
use Rattle.audit.specs.declared.cells.Asked.{Asked}
use Rattle.audit.specs.Sentence.{belongs, and_text, no_initiator, one_initiator, many_initiators, ends_at_text, close_text, was_text, were_text, before, joined, named, openers, could_part, pending_text, wait_part, answer_text, place_text, past_text, unit_part, lines_part, first_text}

-- ---- the numbers below a size that pass a test: no more than the size
pub keep_few : (p : ℕ → Bool) (size : ℕ) → length (keep p (below size)) ≤ size
keep_few p size = omega (arith, length_keep p (below size), length_count 0 size)

-- ---- a name, and what comes before it
abbrev pub name_text : List ℕ → ℕ → List ℕ
name_text is k = before k (length is) ++ decimal_text (get_or is k 0)

-- ---- what the parts take
pub taken_most : (n : ℕ) (is : List ℕ) → n ≤ 16 → length (take n is) ≤ 16
taken_most n is h = omega (arith, length-take n is)

pub before_most : (k n : ℕ) → length (before k n) ≤ 5
unfolding before
before_most k n =
    either_most (eqb k 0) 5 [] (cond (eqb (k + 1) n) and_text comma_text) (omega arith)
    (either_most (eqb (k + 1) n) 5 and_text comma_text (omega arith) (omega arith))

pub name_most : (is : List ℕ) (k : ℕ) → length (name_text is k) ≤ 25
name_most is k =
    let d = get_or is k 0 in
    omega (arith, length-append (before k (length is)) (decimal_text d), before_most k (length is), decimal_most d)

pub joined_most : (is : List ℕ) → length is ≤ 16 → length (joined is) ≤ 400
unfolding joined
joined_most is h =
    omega (arith, gather_most (name_text is) 25 (below (length is)) (λ k m. name_most is k), length_count 0 (length is))

pub named_most : (is : List ℕ) → length is ≤ 16 → length (named is) ≤ 411
unfolding named
named_most is h =
    let one = eqb (length is) 1 in
    omega (arith, length-append (cond one one_initiator many_initiators) (joined is), joined_most is h, either_most one 11 one_initiator many_initiators (omega arith) (omega arith))

pub openers_most : (is : List ℕ) → length is ≤ 16 → length (openers is) ≤ 411
unfolding openers
openers_most is h =
    either_most (eqb (length is) 0) 411 no_initiator (named is) (omega arith) (named_most is h)

pub could_most : (unit : ℕ) (is : List ℕ) → length is ≤ 16 → length (could_part unit is) ≤ 464
unfolding could_part
could_most unit is h = simp length-append (omega (arith, openers_most is h, decimal_most unit))

pending_most : (n : ℕ) → length (pending_text n) ≤ 30
unfolding pending_text
pending_most n = either_most (eqb n 1) 30 was_text were_text (omega arith) (omega arith)

pub wait_most : (is : List ℕ) → length is ≤ 16 → length (wait_part is) ≤ 442
unfolding wait_part
wait_most is h =
    let tail = pending_text (length is) in
    either_most (eqb (length is) 0) 442 [] (0x20 ∷ (named is ++ tail)) (omega arith)
    (omega (arith, length-append (named is) tail, named_most is h, pending_most (length is)))

pub answer_most : (a : Asked) (unit : ℕ) (es : List (List ℕ)) → length (answer_text a unit es) ≤ 907
unfolding answer_text
answer_most a unit es =
    let could = belongs a es false in
    let waits = belongs a es true in
    simp length-append (omega (arith, could_most unit (keep could (below 16)) (keep_few could 16), wait_most (keep waits (below 16)) (keep_few waits 16)))

pub place_most : (place : Option ℕ) → length (place_text place) ≤ 29
unfolding place_text
place_most None = omega arith
place_most (Some nn) = omega arith

pub past_most : (a : Asked) → length (past_text a) ≤ 48
unfolding past_text
past_most a =
    let text = ends_at_text ++ (decimal_text a.last ++ close_text) in
    either_most (ltb a.last a.to) 48 text []
    (simp length-append (omega (arith, decimal_most a.last))) (omega arith)

pub unit_most : (unit : ℕ) (place : Option ℕ) → length (unit_part unit place) ≤ 54
unfolding unit_part
unit_most unit place = simp length-append (omega (arith, decimal_most unit, place_most place))

pub lines_most : (a : Asked) → length (lines_part a) ≤ 109
unfolding lines_part
lines_most a =
    simp length-append (omega (arith, decimal_most a.from, decimal_most a.to, past_most a))

pub first_most : (a : Asked) (unit : ℕ) (place : Option ℕ) → length (first_text a unit place) ≤ 164
unfolding first_text
first_most a unit place =
    simp length-append (omega (arith, unit_most unit place, lines_most a))

-- what a caller's bounds rest on
pub ruleset sizes = (decimal_most, taken_most, before_most, named_most, openers_most, could_most, wait_most, place_most, past_most, unit_most, lines_most)
