-- The cells of the audit's table, and its lines (docs/AUDIT.md). A text is its ASCII codes.
use Rattle.std.specs.Prelude.{ℕ, ◌-◌, ◌+◌, max, min, List, [], ◌∷◌, ◌++◌, map, Bool, cond, not, ◌&&◌, length, get_or, replicate, eqb, ltb, leb}
use Rattle.lists.specs.Lists.{gather, below}
use Rattle.lists.specs.Bytes.{be}
use Rattle.journal.specs.Texts.{decimal_text, byte_text, end_text}
use Rattle.audit.specs.Ledger.{begun_line, ended_size}
use Rattle.audit.specs.declared.cells.Asked.{Asked}

-- ---- "ground in words"
unfoldable pub ground_text : ℕ → List ℕ
ground_text letter =
    cond (eqb letter 0x54) (
    -- TransportID
    0x54 ∷ 0x72 ∷ 0x61 ∷ 0x6E ∷ 0x73 ∷ 0x70 ∷ 0x6F ∷ 0x72 ∷ 0x74 ∷ 0x49 ∷ 0x44 ∷ [])
    (cond (eqb letter 0x41) (
    -- enrolment
    0x65 ∷ 0x6E ∷ 0x72 ∷ 0x6F ∷ 0x6C ∷ 0x6D ∷ 0x65 ∷ 0x6E ∷ 0x74 ∷ [])
    (cond (eqb letter 0x57) (
    -- pending enrolment
    0x70 ∷ 0x65 ∷ 0x6E ∷ 0x64 ∷ 0x69 ∷ 0x6E ∷ 0x67 ∷ 0x20 ∷ 0x65 ∷ 0x6E ∷ 0x72 ∷ 0x6F ∷ 0x6C ∷ 0x6D ∷ 0x65 ∷ 0x6E ∷ 0x74 ∷ [])
    (cond (eqb letter 0x58) (
    -- proxy token
    0x70 ∷ 0x72 ∷ 0x6F ∷ 0x78 ∷ 0x79 ∷ 0x20 ∷ 0x74 ∷ 0x6F ∷ 0x6B ∷ 0x65 ∷ 0x6E ∷ [])
    -- access controls off
    (0x61 ∷ 0x63 ∷ 0x63 ∷ 0x65 ∷ 0x73 ∷ 0x73 ∷ 0x20 ∷ 0x63 ∷ 0x6F ∷ 0x6E ∷ 0x74 ∷ 0x72 ∷ 0x6F ∷ 0x6C ∷ 0x73 ∷ 0x20 ∷ 0x6F ∷ 0x66 ∷ 0x66 ∷ []))))

-- ---- "WHAT is `setup`, `link event`, or the name of the command"
-- "MANAGE ACL"
abbrev pub manage_name : List ℕ
manage_name = 0x4D ∷ 0x41 ∷ 0x4E ∷ 0x41 ∷ 0x47 ∷ 0x45 ∷ 0x20 ∷ 0x41 ∷ 0x43 ∷ 0x4C ∷ []

-- "DISABLE ACCESS CONTROLS"
abbrev pub disable_name : List ℕ
disable_name = 0x44 ∷ 0x49 ∷ 0x53 ∷ 0x41 ∷ 0x42 ∷ 0x4C ∷ 0x45 ∷ 0x20 ∷ 0x41 ∷ 0x43 ∷ 0x43 ∷ 0x45 ∷ 0x53 ∷ 0x53 ∷ 0x20 ∷ 0x43 ∷ 0x4F ∷ 0x4E ∷ 0x54 ∷ 0x52 ∷ 0x4F ∷ 0x4C ∷ 0x53 ∷ []

-- "ACCESS ID ENROLL"
abbrev pub enroll_name : List ℕ
enroll_name = 0x41 ∷ 0x43 ∷ 0x43 ∷ 0x45 ∷ 0x53 ∷ 0x53 ∷ 0x20 ∷ 0x49 ∷ 0x44 ∷ 0x20 ∷ 0x45 ∷ 0x4E ∷ 0x52 ∷ 0x4F ∷ 0x4C ∷ 0x4C ∷ []

-- "CANCEL ENROLLMENT"
abbrev pub cancel_name : List ℕ
cancel_name = 0x43 ∷ 0x41 ∷ 0x4E ∷ 0x43 ∷ 0x45 ∷ 0x4C ∷ 0x20 ∷ 0x45 ∷ 0x4E ∷ 0x52 ∷ 0x4F ∷ 0x4C ∷ 0x4C ∷ 0x4D ∷ 0x45 ∷ 0x4E ∷ 0x54 ∷ []

-- "REVOKE PROXY TOKEN"
abbrev pub revoke_name : List ℕ
revoke_name = 0x52 ∷ 0x45 ∷ 0x56 ∷ 0x4F ∷ 0x4B ∷ 0x45 ∷ 0x20 ∷ 0x50 ∷ 0x52 ∷ 0x4F ∷ 0x58 ∷ 0x59 ∷ 0x20 ∷ 0x54 ∷ 0x4F ∷ 0x4B ∷ 0x45 ∷ 0x4E ∷ []

-- "REVOKE ALL PROXY TOKENS"
abbrev pub revoke_all_name : List ℕ
revoke_all_name = 0x52 ∷ 0x45 ∷ 0x56 ∷ 0x4F ∷ 0x4B ∷ 0x45 ∷ 0x20 ∷ 0x41 ∷ 0x4C ∷ 0x4C ∷ 0x20 ∷ 0x50 ∷ 0x52 ∷ 0x4F ∷ 0x58 ∷ 0x59 ∷ 0x20 ∷ 0x54 ∷ 0x4F ∷ 0x4B ∷ 0x45 ∷ 0x4E ∷ 0x53 ∷ []

-- "ASSIGN PROXY LUN"
abbrev pub assign_name : List ℕ
assign_name = 0x41 ∷ 0x53 ∷ 0x53 ∷ 0x49 ∷ 0x47 ∷ 0x4E ∷ 0x20 ∷ 0x50 ∷ 0x52 ∷ 0x4F ∷ 0x58 ∷ 0x59 ∷ 0x20 ∷ 0x4C ∷ 0x55 ∷ 0x4E ∷ []

-- "RELEASE PROXY LUN"
abbrev pub release_name : List ℕ
release_name = 0x52 ∷ 0x45 ∷ 0x4C ∷ 0x45 ∷ 0x41 ∷ 0x53 ∷ 0x45 ∷ 0x20 ∷ 0x50 ∷ 0x52 ∷ 0x4F ∷ 0x58 ∷ 0x59 ∷ 0x20 ∷ 0x4C ∷ 0x55 ∷ 0x4E ∷ []

-- "link event"
abbrev pub link_name : List ℕ
link_name = 0x6C ∷ 0x69 ∷ 0x6E ∷ 0x6B ∷ 0x20 ∷ 0x65 ∷ 0x76 ∷ 0x65 ∷ 0x6E ∷ 0x74 ∷ []

-- "setup"
abbrev pub setup_name : List ℕ
setup_name = 0x73 ∷ 0x65 ∷ 0x74 ∷ 0x75 ∷ 0x70 ∷ []

-- "No other command begins or ends a ground.": others have no name
unfoldable pub what_text : ℕ → List ℕ
what_text what =
    cond (eqb what 0x00) manage_name
    (cond (eqb what 0x01) disable_name
    (cond (eqb what 0x02) enroll_name
    (cond (eqb what 0x03) cancel_name
    (cond (eqb what 0x07) revoke_name
    (cond (eqb what 0x08) revoke_all_name
    (cond (eqb what 0x09) assign_name
    (cond (eqb what 0x0A) release_name
    (cond (eqb what 0xFE) link_name
    (cond (eqb what 0xFF) setup_name
    [])))))))))

-- " by "
abbrev pub by_text : List ℕ
by_text = 0x20 ∷ 0x62 ∷ 0x79 ∷ 0x20 ∷ []

-- ", line "
abbrev pub at_line_text : List ℕ
at_line_text = 0x2C ∷ 0x20 ∷ 0x6C ∷ 0x69 ∷ 0x6E ∷ 0x65 ∷ 0x20 ∷ []

-- "still stands"
abbrev pub stands_text : List ℕ
stands_text = 0x73 ∷ 0x74 ∷ 0x69 ∷ 0x6C ∷ 0x6C ∷ 0x20 ∷ 0x73 ∷ 0x74 ∷ 0x61 ∷ 0x6E ∷ 0x64 ∷ 0x73 ∷ []

-- "followed by ` by I` if initiator I sent it and the ground is another initiator's"; setups (FFh) and link events (FEh) are nobody's
unfoldable pub sender_text : ℕ → ℕ → ℕ → List ℕ
sender_text what by own = cond (ltb what 0xFE && not (eqb by own)) (by_text ++ decimal_text by) []

-- "`WHAT, line N`", for the deed at a place of a ground
unfoldable pub deed_text : List ℕ → ℕ → List ℕ
deed_text e at =
    what_text (get_or e at 0)
    ++ (sender_text (get_or e at 0) (get_or e (at + 1) 0) (get_or e 0 0) ++ (at_line_text ++ decimal_text (be 8 e (at + 2))))

-- ---- "`from`, `to`: the first and the last line at which it stood, cut to the lines asked for and to the last line of the journal"
abbrev pub has_ended : List ℕ → Bool
has_ended e = eqb (length e) ended_size

abbrev pub from_line : Asked → List ℕ → ℕ
from_line a e = max (begun_line e) a.from

-- the line at which it ended, or the last line of the journal
unfoldable pub end_line : Asked → List ℕ → ℕ
end_line a e = cond (has_ended e) (be 8 e 16) a.last

abbrev pub to_line : Asked → List ℕ → ℕ
to_line a e = min (end_line a e) a.to

-- "Shown is each ground that stood at one of them"
unfoldable pub is_shown : Asked → List ℕ → Bool
is_shown a e = leb (begun_line e) a.to && leb a.from (end_line a e)

-- ---- the cells, by the number of the column
unfoldable pub ended_text : List ℕ → List ℕ
ended_text e = cond (has_ended e) (deed_text e 14) stands_text

unfoldable pub cell_text : Asked → ℕ → List ℕ → List ℕ
cell_text a column e =
    cond (eqb column 0) (decimal_text (get_or e 0 0))
    (cond (eqb column 1) (byte_text (get_or e 1 0))
    (cond (eqb column 2) (ground_text (get_or e 3 0))
    (cond (eqb column 3) (decimal_text (from_line a e))
    (cond (eqb column 4) (decimal_text (to_line a e))
    (cond (eqb column 5) (deed_text e 4)
    (ended_text e))))))

-- "the headings"
unfoldable pub head_text : ℕ → List ℕ
head_text column =
    cond (eqb column 0) (
    -- initiator
    0x69 ∷ 0x6E ∷ 0x69 ∷ 0x74 ∷ 0x69 ∷ 0x61 ∷ 0x74 ∷ 0x6F ∷ 0x72 ∷ [])
    (cond (eqb column 1) (
    -- LUN
    0x4C ∷ 0x55 ∷ 0x4E ∷ [])
    (cond (eqb column 2) (
    -- ground
    0x67 ∷ 0x72 ∷ 0x6F ∷ 0x75 ∷ 0x6E ∷ 0x64 ∷ [])
    (cond (eqb column 3) (
    -- from
    0x66 ∷ 0x72 ∷ 0x6F ∷ 0x6D ∷ [])
    (cond (eqb column 4) (
    -- to
    0x74 ∷ 0x6F ∷ [])
    (cond (eqb column 5) (
    -- begun by
    0x62 ∷ 0x65 ∷ 0x67 ∷ 0x75 ∷ 0x6E ∷ 0x20 ∷ 0x62 ∷ 0x79 ∷ [])
    -- ended by
    (0x65 ∷ 0x6E ∷ 0x64 ∷ 0x65 ∷ 0x64 ∷ 0x20 ∷ 0x62 ∷ 0x79 ∷ []))))))

-- a line without a ground has the headings
unfoldable pub line_cell : Asked → List ℕ → ℕ → List ℕ
line_cell a e column = cond (eqb (length e) 0) (head_text column) (cell_text a column e)

-- ---- "filled up with spaces, with two spaces between columns"; with `tsv`, "separated by one tab"
unfoldable pub fill_text : Bool → ℕ → ℕ → List ℕ
fill_text tsv width size = cond tsv (0x09 ∷ []) (replicate (width + 2 - size) 0x20)

abbrev pub filled : Bool → ℕ → List ℕ → List ℕ
filled tsv width text = text ++ fill_text tsv width (length text)

abbrev pub filled_cell : Asked → Bool → List ℕ → List ℕ → ℕ → List ℕ
filled_cell a tsv widths e column = filled tsv (get_or widths column 0) (line_cell a e column)

-- a line of the table: six cells filled up, and the last
unfoldable pub row_text : Asked → Bool → List ℕ → List ℕ → List ℕ
row_text a tsv widths e =
    gather (filled_cell a tsv widths e) (below 6) ++ (line_cell a e 6 ++ end_text)

-- "A column is as wide as its heading or its widest cell.": of the grounds that are shown
unfoldable pub widened : Asked → ℕ → List ℕ → ℕ → ℕ
widened a column e width = cond (is_shown a e) (max width (length (cell_text a column e))) width

unfoldable pub widest : Asked → ℕ → List (List ℕ) → ℕ → ℕ
widest a column [] width = width
widest a column (e ∷ es) width = widest a column es (widened a column e width)

abbrev pub column_width : Asked → List (List ℕ) → List (List ℕ) → ℕ → ℕ
column_width a ended standing column = widest a column standing (widest a column ended (length (head_text column)))

unfoldable pub column_widths : Asked → List (List ℕ) → List (List ℕ) → List ℕ
column_widths a ended standing = map (column_width a ended standing) (below 6)
