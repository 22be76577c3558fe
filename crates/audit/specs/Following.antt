-- The grounds of a unit followed through a journal, line by line, beside its replay (Lines.fed; docs/AUDIT.md).
use Rattle.std.specs.Prelude.{ℕ, List, [], ◌∷◌, ◌++◌, Bool, cond, ◌&&◌, length, take, eqb, ltb, leb, Option, Some, None}
use Rattle.paper.specs.declared.state.Coordinator.{Coordinator}
use Rattle.journal.specs.Statements.{Line, read_line}
use Rattle.journal.specs.Lines.{is_end, Replaying, begun as started_replay, answered as answered_replay, lengthened as lengthened_replay}
use Rattle.audit.specs.Deeds.{done_by}
use Rattle.audit.specs.Ledger.{deed_bytes, forgotten, rows_after, stands_after, ends_after}
use Rattle.audit.specs.declared.ledger.Deed.{Deed}
use Rattle.audit.specs.declared.following.Inquiry.{Inquiry}
use Rattle.audit.specs.declared.ledger.Grounds.{Grounds}

-- ---- "An audit keeps what stands and what ended"
pub record Kept : Type 0 where
  pub standing : List ℕ
  pub ended : List ℕ

-- at the start of the buffers that are lent for them
abbrev pub kept_in : Grounds → List ℕ → List ℕ → Kept
kept_in g standing ended = record { standing = take g.standing standing; ended = take g.ended ended }

-- "of those that ended, 16,384 at most"
unfoldable pub fits : Kept → Bool
fits k = leb (length k.standing) 65536 && leb (length k.ended) 393216

-- "not counting any that ended before FROM"
unfoldable pub counted_from : ℕ → ℕ → List ℕ → List ℕ
counted_from from line ends = cond (ltb line from) [] ends

-- ---- after a line that may have begun or ended grounds, and made the coordinator what it is
unfoldable pub changed_by : Inquiry → Deed → Coordinator → Kept → Kept
changed_by q d c k =
    record {
      standing = stands_after q.unit (forgotten d.what k.standing) (rows_after c) (deed_bytes d);
      ended = k.ended ++ counted_from q.from d.line (ends_after k.standing (forgotten d.what (rows_after c)) (deed_bytes d) q.to);
    }

-- if it did something that may
abbrev pub changed_if : Inquiry → Option Deed → Coordinator → Kept → Kept
changed_if q None c k = k
changed_if q (Some d) c k = changed_by q d c k

-- after any line
unfoldable pub followed : Inquiry → ℕ → Line → Coordinator → Kept → Kept
followed q number line c k = changed_if q (done_by number line) c k

-- ---- an input, byte by byte: where its replay is, and what is kept
pub record Auditing : Type 0 where
  pub replaying : Replaying
  pub kept : Kept

-- "Before the first line nothing stands."
abbrev pub begun : Auditing
begun = record { replaying = started_replay; kept = record { standing = []; ended = [] } }

abbrev pub answered : Inquiry → Auditing → Auditing
answered q a =
    record {
      replaying = answered_replay a.replaying;
      kept = followed q a.replaying.number (read_line a.replaying.line) (answered_replay a.replaying).state a.kept;
    }

abbrev pub lengthened : Auditing → ℕ → Auditing
lengthened a b = record { replaying = lengthened_replay a.replaying b; kept = a.kept }

unfoldable pub fed : Inquiry → Auditing → List ℕ → Auditing
fed q a [] = a
fed q a (b ∷ s) = fed q (cond (is_end b) (answered q a) (lengthened a b)) s

-- the end of the input
unfoldable pub ended : Inquiry → Auditing → Auditing
ended q a = cond (eqb (length a.replaying.line) 0) a (answered q a)
