-- The words of a line: "A word is a run of bytes other than the space (20h), as long as possible."
use Rattle.std.specs.Prelude.{ℕ, List, [], ◌∷◌, Bool, cond, not, length, eqb}

abbrev pub is_space : ℕ → Bool
is_space b = eqb b 0x20

-- what is left behind the spaces at the start
unfoldable pub skip_spaces : List ℕ → List ℕ
skip_spaces [] = []
skip_spaces (b ∷ s) = cond (is_space b) (skip_spaces s) (b ∷ s)

-- the run of other bytes at the start, and what is left behind it
unfoldable pub word_at : List ℕ → List ℕ
word_at [] = []
word_at (b ∷ s) = cond (is_space b) [] (b ∷ word_at s)

unfoldable pub after_word : List ℕ → List ℕ
after_word [] = []
after_word (b ∷ s) = cond (is_space b) (b ∷ s) (after_word s)

-- the next word, which has no bytes where there is none, and what is left behind it
abbrev pub next_word : List ℕ → List ℕ
next_word s = word_at (skip_spaces s)

abbrev pub rest_of : List ℕ → List ℕ
rest_of s = after_word (skip_spaces s)

abbrev pub has_word : List ℕ → Bool
has_word s = not (eqb (length (next_word s)) 0)
