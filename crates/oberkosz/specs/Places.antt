-- Where the program is in a journal: as Following.fed says of the bytes that were read.
use Rattle.std.specs.Prelude.{ℕ, ◌-◌, ◌≤◌, ◌≡◌, Bool, true, false, List, take, Option, Some, None}
use Rattle.audit.specs.Room.{Within}
use Rattle.audit.specs.Following.{kept_in, Auditing}
use Rattle.audit.specs.declared.following.Inquiry.{Inquiry}
use Rattle.audit.specs.declared.cells.Asked.{Asked}
use Rattle.oberkosz.specs.declared.task.Lines.{Lines}
use Rattle.oberkosz.specs.declared.task.Audit.{Audit}
use Rattle.oberkosz.specs.declared.task.Task.{Task}
use Rattle.oberkosz.specs.declared.task.Task.TheVariants.{Replay, Acl}
use Rattle.oberkosz.specs.declared.task.Task.TheVariants as task
use Rattle.oberkosz.specs.declared.step.Place.{Place}

-- grounds are followed for an audit alone
abbrev pub is_audit : Task → Bool
is_audit Replay = false
is_audit (task.Audit a) = true
is_audit Acl = false

-- of all lines, where none are named
abbrev pub lines_in : Option Lines → Lines
lines_in None = record { from = 1; to = 18446744073709551615 }
lines_in (Some l) = l

abbrev pub inquiry_in : Audit → Inquiry
inquiry_in a = record { unit = a.unit; from = (lines_in a.lines).from; to = (lines_in a.lines).to }

-- what its table tells of, where the next line would have a number: all lines of the journal, where none are named
abbrev pub lines_told : Option Lines → ℕ → Lines
lines_told None last = record { from = 1; to = last }
lines_told (Some l) last = l

abbrev pub asked_in : Audit → ℕ → Asked
asked_in a next = record { from = (lines_told a.lines (next - 1)).from; to = (lines_told a.lines (next - 1)).to; last = next - 1 }

-- of another task none is followed
abbrev pub inquiry_of : Task → Inquiry
inquiry_of Replay = record { unit = 0; from = 1; to = 18446744073709551615 }
inquiry_of (task.Audit a) = inquiry_in a
inquiry_of Acl = record { unit = 0; from = 1; to = 18446744073709551615 }

-- the program's state, line number and line are those of a replay; of a line that is too long it keeps the first 262,145 bytes. While it goes on, the grounds in its buffers are those of the audit
pub record At (task : Task) (p : Place) (line standing ended : List ℕ) (x : Auditing) : Type 0 where
  pub state : p.state ≡ x.replaying.state
  pub number : p.number ≡ x.replaying.number
  pub kept : take p.used line ≡ take 262145 x.replaying.line
  pub grounds : is_audit task ≡ true → p.going ≡ true → kept_in p.grounds standing ended ≡ x.kept

-- what the program may count on at each line
pub record Sound (p : Place) : Type 0 where
  pub used_fits : p.used ≤ 262145
  pub within : Within p.grounds
