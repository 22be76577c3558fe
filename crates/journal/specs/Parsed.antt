-- What a line says, in the enum of the code. The byte strings of a statement stand in buffers beside the enum.
use Rattle.std.specs.Prelude.{ℕ, ◌≤◌, List, ◌≡◌, take}
use Rattle.journal.specs.Statements.{setup, command, link, route, reach, Line, skipped, said, too_long, expected}
use Rattle.journal.specs.declared.statement.Parsed.{Parsed}
use Rattle.journal.specs.declared.statement.Parsed.TheVariants.{Skipped, TooLong, Expected, Setup, Command, Link, Route, Reach}
use Rattle.journal.specs.declared.statement.ReadLine.{ReadLine}

-- the TransportIDs and the default LUNs of a setup, or the CDB and the parameter bytes of a command, come second and third
abbrev pub line_of : Parsed → List ℕ → List ℕ → Line
line_of Skipped a b = skipped
line_of TooLong a b = too_long
line_of (Expected k kind) a b = expected k kind
line_of Setup a b = said (setup a b)
line_of (Command i random n) a b = said (command i a b random n)
line_of (Link i) a b = said (link i)
line_of (Route i l) a b = said (route i l)
line_of (Reach n) a b = said (reach n)

-- what is read without a look at the byte strings holds whatever they are
abbrev pub Says : Parsed → (List ℕ → List ℕ → Line) → Type 0
Says p line = (a b : List ℕ) → line_of p a b ≡ line a b

-- a line that was read into two buffers of 131,072 bytes: half of 262,144, as a byte is two digits
pub record Reads (r : ReadLine) (first second : List ℕ) (line : Line) : Type 0 where
  pub is : line_of r.parsed (take r.first first) (take r.second second) ≡ line
  pub first_fits : r.first ≤ 131072
  pub second_fits : r.second ≤ 131072
