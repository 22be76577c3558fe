-- A statement that lends a buffer lends so many bytes of one that has 65,536.
use Prim.Native.Nat.{ℕ, ◌≤◌}
use mathlib.Core.Path.{◌≡◌}
use mathlib.Core.List.{List}
use Rattle.journal.specs.Statements.{lent_by}
use Rattle.journal.specs.Parsed.{line_of}
use Rattle.journal.specs.declared.statement.Parsed.{Parsed}
use Rattle.journal.specs.declared.statement.Parsed.TheVariants.{Command, Reach}

pub command_lends : {p : Parsed} {i random n : ℕ} (a b : List ℕ) → p ≡ Command i random n → lent_by (line_of p a b) ≤ 65536 → n ≤ 65536
command_lends a b e h = rw e at h

pub reach_lends : {p : Parsed} {n : ℕ} (a b : List ℕ) → p ≡ Reach n → lent_by (line_of p a b) ≤ 65536 → n ≤ 65536
reach_lends a b e h = rw e at h
