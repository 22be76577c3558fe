-- The first line of an audit, and its answer (docs/AUDIT.md).
use Rattle.std.specs.Prelude.{Option, Some, None, ℕ, ◌+◌, List, [], ◌∷◌, ◌++◌, Bool, true, false, cond, not, ◌&&◌, length, get_or, eqb, ltb}
use Rattle.lists.specs.Lists.{any, keep, gather, below}
use Rattle.journal.specs.Texts.{decimal_text, byte_text, unit_name, comma_text, end_text}
use Rattle.audit.specs.Ledger.{ended_size, standing_size, runs_of}
use Rattle.audit.specs.Cells.{is_shown}
use Rattle.audit.specs.declared.cells.Asked.{Asked}

-- ---- who could open the unit, and who was pending
-- those that ended, and those that stand
abbrev pub grounds_of : List ℕ → List ℕ → List (List ℕ)
grounds_of ended standing = runs_of ended_size ended ++ runs_of standing_size standing

-- a ground shown of an initiator, a pending enrolment (W) or another
unfoldable pub is_of : Asked → ℕ → Bool → List ℕ → Bool
is_of a i waits e = is_shown a e && (eqb (get_or e 0 0) i && cond (eqb (get_or e 3 0) 0x57) waits (not waits))

abbrev pub could : Asked → List (List ℕ) → ℕ → Bool
could a es i = any (is_of a i false) es

-- "other initiators have a pending enrolment among the grounds shown"
unfoldable pub belongs : Asked → List (List ℕ) → Bool → ℕ → Bool
belongs a es false i = could a es i
belongs a es true i = not (could a es i) && any (is_of a i true) es

-- ---- "Initiators 0, 1 and 3"
-- " and "
abbrev pub and_text : List ℕ
and_text = 0x20 ∷ 0x61 ∷ 0x6E ∷ 0x64 ∷ 0x20 ∷ []

-- "No initiator"
abbrev pub no_initiator : List ℕ
no_initiator = 0x4E ∷ 0x6F ∷ 0x20 ∷ 0x69 ∷ 0x6E ∷ 0x69 ∷ 0x74 ∷ 0x69 ∷ 0x61 ∷ 0x74 ∷ 0x6F ∷ 0x72 ∷ []

-- "Initiator "
abbrev pub one_initiator : List ℕ
one_initiator = 0x49 ∷ 0x6E ∷ 0x69 ∷ 0x74 ∷ 0x69 ∷ 0x61 ∷ 0x74 ∷ 0x6F ∷ 0x72 ∷ 0x20 ∷ []

-- "Initiators "
abbrev pub many_initiators : List ℕ
many_initiators = 0x49 ∷ 0x6E ∷ 0x69 ∷ 0x74 ∷ 0x69 ∷ 0x61 ∷ 0x74 ∷ 0x6F ∷ 0x72 ∷ 0x73 ∷ 0x20 ∷ []

-- " could open unit "
abbrev pub could_text : List ℕ
could_text = 0x20 ∷ 0x63 ∷ 0x6F ∷ 0x75 ∷ 0x6C ∷ 0x64 ∷ 0x20 ∷ 0x6F ∷ 0x70 ∷ 0x65 ∷ 0x6E ∷ 0x20 ∷ 0x75 ∷ 0x6E ∷ 0x69 ∷ 0x74 ∷ 0x20 ∷ []

-- " in these lines."
abbrev pub in_lines_text : List ℕ
in_lines_text = 0x20 ∷ 0x69 ∷ 0x6E ∷ 0x20 ∷ 0x74 ∷ 0x68 ∷ 0x65 ∷ 0x73 ∷ 0x65 ∷ 0x20 ∷ 0x6C ∷ 0x69 ∷ 0x6E ∷ 0x65 ∷ 0x73 ∷ 0x2E ∷ []

-- " was pending: it could not."
abbrev pub was_text : List ℕ
was_text = 0x20 ∷ 0x77 ∷ 0x61 ∷ 0x73 ∷ 0x20 ∷ 0x70 ∷ 0x65 ∷ 0x6E ∷ 0x64 ∷ 0x69 ∷ 0x6E ∷ 0x67 ∷ 0x3A ∷ 0x20 ∷ 0x69 ∷ 0x74 ∷ 0x20 ∷ 0x63 ∷ 0x6F ∷ 0x75 ∷ 0x6C ∷ 0x64 ∷ 0x20 ∷ 0x6E ∷ 0x6F ∷ 0x74 ∷ 0x2E ∷ []

-- " were pending: they could not."
abbrev pub were_text : List ℕ
were_text = 0x20 ∷ 0x77 ∷ 0x65 ∷ 0x72 ∷ 0x65 ∷ 0x20 ∷ 0x70 ∷ 0x65 ∷ 0x6E ∷ 0x64 ∷ 0x69 ∷ 0x6E ∷ 0x67 ∷ 0x3A ∷ 0x20 ∷ 0x74 ∷ 0x68 ∷ 0x65 ∷ 0x79 ∷ 0x20 ∷ 0x63 ∷ 0x6F ∷ 0x75 ∷ 0x6C ∷ 0x64 ∷ 0x20 ∷ 0x6E ∷ 0x6F ∷ 0x74 ∷ 0x2E ∷ []

-- " (default LUN "
abbrev pub default_text : List ℕ
default_text = 0x20 ∷ 0x28 ∷ 0x64 ∷ 0x65 ∷ 0x66 ∷ 0x61 ∷ 0x75 ∷ 0x6C ∷ 0x74 ∷ 0x20 ∷ 0x4C ∷ 0x55 ∷ 0x4E ∷ 0x20 ∷ []

-- " (not on the shelf at the end"
abbrev pub absent_text : List ℕ
absent_text = 0x20 ∷ 0x28 ∷ 0x6E ∷ 0x6F ∷ 0x74 ∷ 0x20 ∷ 0x6F ∷ 0x6E ∷ 0x20 ∷ 0x74 ∷ 0x68 ∷ 0x65 ∷ 0x20 ∷ 0x73 ∷ 0x68 ∷ 0x65 ∷ 0x6C ∷ 0x66 ∷ 0x20 ∷ 0x61 ∷ 0x74 ∷ 0x20 ∷ 0x74 ∷ 0x68 ∷ 0x65 ∷ 0x20 ∷ 0x65 ∷ 0x6E ∷ 0x64 ∷ []

-- "), journal lines "
abbrev pub lines_text : List ℕ
lines_text = 0x29 ∷ 0x2C ∷ 0x20 ∷ 0x6A ∷ 0x6F ∷ 0x75 ∷ 0x72 ∷ 0x6E ∷ 0x61 ∷ 0x6C ∷ 0x20 ∷ 0x6C ∷ 0x69 ∷ 0x6E ∷ 0x65 ∷ 0x73 ∷ 0x20 ∷ []

-- " to "
abbrev pub to_text : List ℕ
to_text = 0x20 ∷ 0x74 ∷ 0x6F ∷ 0x20 ∷ []

-- " (the journal ends at line "
abbrev pub ends_at_text : List ℕ
ends_at_text = 0x20 ∷ 0x28 ∷ 0x74 ∷ 0x68 ∷ 0x65 ∷ 0x20 ∷ 0x6A ∷ 0x6F ∷ 0x75 ∷ 0x72 ∷ 0x6E ∷ 0x61 ∷ 0x6C ∷ 0x20 ∷ 0x65 ∷ 0x6E ∷ 0x64 ∷ 0x73 ∷ 0x20 ∷ 0x61 ∷ 0x74 ∷ 0x20 ∷ 0x6C ∷ 0x69 ∷ 0x6E ∷ 0x65 ∷ 0x20 ∷ []

-- ")"
abbrev pub close_text : List ℕ
close_text = 0x29 ∷ []

unfoldable pub before : ℕ → ℕ → List ℕ
before k n = cond (eqb k 0) [] (cond (eqb (k + 1) n) and_text comma_text)

unfoldable pub joined : List ℕ → List ℕ
joined is = gather (λ k. before k (length is) ++ decimal_text (get_or is k 0)) (below (length is))

unfoldable pub named : List ℕ → List ℕ
named is = cond (eqb (length is) 1) one_initiator many_initiators ++ joined is

unfoldable pub openers : List ℕ → List ℕ
openers is = cond (eqb (length is) 0) no_initiator (named is)

unfoldable pub could_part : ℕ → List ℕ → List ℕ
could_part unit is =
    openers is ++ (could_text ++ (decimal_text unit ++ in_lines_text))

unfoldable pub pending_text : ℕ → List ℕ
pending_text n = cond (eqb n 1) was_text were_text

unfoldable pub wait_part : List ℕ → List ℕ
wait_part is = cond (eqb (length is) 0) [] (0x20 ∷ (named is ++ pending_text (length is)))

unfoldable pub answer_text : Asked → ℕ → List (List ℕ) → List ℕ
answer_text a unit es =
    could_part unit (keep (belongs a es false) (below 16)) ++ (wait_part (keep (belongs a es true) (below 16)) ++ end_text)

-- ---- the first line
-- "its default LUN on the shelf as it is after the last line"
unfoldable pub place_text : Option ℕ → List ℕ
place_text None = absent_text
place_text (Some nn) = default_text ++ byte_text nn

unfoldable pub past_text : Asked → List ℕ
past_text a = cond (ltb a.last a.to) (ends_at_text ++ (decimal_text a.last ++ close_text)) []

unfoldable pub unit_part : ℕ → Option ℕ → List ℕ
unit_part unit place = unit_name ++ (decimal_text unit ++ place_text place)

unfoldable pub lines_part : Asked → List ℕ
lines_part a = lines_text ++ (decimal_text a.from ++ (to_text ++ (decimal_text a.to ++ past_text a)))

unfoldable pub first_text : Asked → ℕ → Option ℕ → List ℕ
first_text a unit place = unit_part unit place ++ (lines_part a ++ end_text)
