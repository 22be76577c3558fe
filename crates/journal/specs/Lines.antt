-- An input, byte by byte: "A line ends with LF (0Ah) or with the end of the input; a last line without LF counts if it has at least one byte. Lines are numbered from 1, and every line counts, skipped ones too."
use Rattle.std.specs.Prelude.{ℕ, ◌+◌, List, [], ◌∷◌, ◌++◌, Bool, cond, length, eqb}
use Rattle.paper.specs.Fresh.{nothing, fresh}
use Rattle.paper.specs.declared.state.Coordinator.{Coordinator}
use Rattle.journal.specs.Statements.{read_line}
use Rattle.journal.specs.Replay.{step_line}

abbrev pub is_end : ℕ → Bool
is_end b = eqb b 0x0A

-- where a replay is: the state, the number of the line that is being read, what was read of it, and what was written
pub record Replaying : Type 0 where
  pub state : Coordinator
  pub number : ℕ
  pub line : List ℕ
  pub written : List ℕ

-- "Before the first setup the coordinator is the one that a refused setup leaves"
abbrev pub begun : Replaying
begun = record { state = fresh nothing; number = 1; line = []; written = [] }

-- a line is whole: it is answered, and the next one begins
abbrev pub answered : Replaying → Replaying
answered p =
    record {
      state = (step_line p.state p.number (read_line p.line)).state;
      number = p.number + 1;
      line = [];
      written = p.written ++ (step_line p.state p.number (read_line p.line)).text;
    }

-- one byte more of a line
abbrev pub lengthened : Replaying → ℕ → Replaying
lengthened p b = record { state = p.state; number = p.number; line = p.line ++ (b ∷ []); written = p.written }

unfoldable pub fed : Replaying → List ℕ → Replaying
fed p [] = p
fed p (b ∷ s) = fed (cond (is_end b) (answered p) (lengthened p b)) s

-- the end of the input
unfoldable pub ended : Replaying → Replaying
ended p = cond (eqb (length p.line) 0) p (answered p)

-- what is written for an input
abbrev pub replay : List ℕ → List ℕ
replay input = (ended (fed begun input)).written
