-- What is taken from a chunk into a line.
use Rattle.std.specs.Prelude.{ℕ, ◌+◌, ◌≤◌, ◌≡◌, List, ◌++◌, Bool, cond, length, take}
use Rattle.lists.specs.Lists.{any, place_of}
use Rattle.journal.specs.Lines.{is_end}

-- the bytes of a chunk before the end of the line, or all of them
abbrev pub before_end : List ℕ → List ℕ
before_end chunk = take (place_of is_end chunk) chunk

-- a line that began with `old` has gone on with a chunk: whether it ended there, how many bytes were read, and its first 262,145 bytes
pub record TookIn (old chunk : List ℕ) (ended : Bool) (eaten : ℕ) (line : List ℕ) (used : ℕ) : Type 0 where
  pub whole : ended ≡ any is_end chunk
  pub read : eaten ≡ cond ended (place_of is_end chunk + 1) (length chunk)
  pub kept : line ≡ take 262145 (old ++ before_end chunk)
  pub small : used ≤ 262145
