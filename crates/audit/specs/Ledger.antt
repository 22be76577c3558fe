-- The grounds of one unit, followed from statement to statement (docs/AUDIT.md). A ground that stands is 14 bytes: its row of the reach list, and what it began with; one that ended is 24: what it ended with comes behind.
use Rattle.std.specs.Prelude.{ℕ, ◌/◌, List, [], ◌∷◌, ◌++◌, Bool, cond, ◌||◌, length, get_or, drop, eqb, ltb}
use Rattle.std.specs.Prelude.{Option, Some, None}
use Rattle.lists.specs.Lists.{find, any, gather, parts}
use Rattle.lists.specs.Bytes.{be, be_bytes, same_bytes}
use Rattle.paper.specs.Outcomes.{Decision, refuse, check, good, decide_reach}
use Rattle.paper.specs.declared.state.Coordinator.{Coordinator}
use Rattle.audit.specs.declared.ledger.Deed.{Deed}

-- ---- what began or ended a ground: which statement (FFh a setup, FEh a link event, else a command's service action), by whom, at which line
abbrev pub deed_bytes : Deed → List ℕ
deed_bytes d = d.what ∷ d.by ∷ be_bytes 8 d.line

-- ---- "four bytes a row: initiator, nn, unit, ground in ASCII"
abbrev pub row_size : ℕ
row_size = 4

abbrev pub standing_size : ℕ
standing_size = 14

abbrev pub ended_size : ℕ
ended_size = 24

-- runs of one size, as many as there are whole ones
abbrev pub runs_of : ℕ → List ℕ → List (List ℕ)
runs_of size s = parts size (length s / size) s

abbrev pub same_row : List ℕ → List ℕ → Bool
same_row row e = same_bytes 4 e row

abbrev pub of_unit : ℕ → List ℕ → Bool
of_unit unit row = eqb (get_or row 2 0) unit

-- the line at which a ground began
abbrev pub begun_line : List ℕ → ℕ
begun_line e = be 8 e 6

-- ---- "A ground begins at a line if it stands after that line and did not stand after the line before": what stood before keeps what it began with
abbrev pub or_begun : List ℕ → Option (List ℕ) → List ℕ
or_begun begun None = begun
or_begun begun (Some e) = e

unfoldable pub held_over : List (List ℕ) → List ℕ → List ℕ → List ℕ
held_over standing deed row = or_begun (row ++ deed) (find (same_row row) standing)

unfoldable pub stands_by : ℕ → List (List ℕ) → List ℕ → List ℕ → List ℕ
stands_by unit standing deed row = cond (of_unit unit row) (held_over standing deed row) []

-- the grounds of the unit that stand after a line, from those that stood before and the rows of the reach list
unfoldable pub stands_after : ℕ → List ℕ → List ℕ → List ℕ → List ℕ
stands_after unit standing rows deed =
    gather (stands_by unit (runs_of standing_size standing) deed) (runs_of row_size rows)

-- ---- "It ends at a later line if it does not stand after that line": kept where it began up to a line
unfoldable pub ends_by : List (List ℕ) → List ℕ → ℕ → List ℕ → List ℕ
ends_by rows deed to e = cond (any (same_row e) rows || ltb to (begun_line e)) [] (e ++ deed)

unfoldable pub ends_after : List ℕ → List ℕ → List ℕ → ℕ → List ℕ
ends_after standing rows deed to = gather (ends_by (runs_of row_size rows) deed to) (runs_of standing_size standing)

-- ---- the rows of the reach list, as it is delivered
abbrev pub replied_bytes : Decision → List ℕ
replied_bytes (refuse n) = []
replied_bytes (check k) = []
replied_bytes (good es bytes) = bytes

unfoldable pub rows_after : Coordinator → List ℕ
rows_after c = drop 8 (replied_bytes (decide_reach c 65536))

-- "if that line is a setup": "all before it is forgotten"
abbrev pub forgotten : ℕ → List ℕ → List ℕ
forgotten what bytes = cond (eqb what 0xFF) [] bytes
