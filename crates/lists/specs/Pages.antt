-- A list of pages: each has a head of four bytes, of which the last two say how many bytes follow the head.
use Rattle.std.specs.Prelude.{ℕ, zero, suc, ◌+◌, List, [], ◌∷◌, Bool, length, take, drop, leb}
use Rattle.lists.specs.Bytes.{be}

-- the size of the page at the start of s, its head included, as its head has it
unfoldable pub page_size : List ℕ → ℕ
page_size s = 4 + be 2 s 2

-- at most n pages of s
unfoldable pub pages_up_to : ℕ → List ℕ → List (List ℕ)
pages_up_to zero s = []
pages_up_to (suc n) [] = []
pages_up_to (suc n) (b ∷ s) = take (page_size (b ∷ s)) (b ∷ s) ∷ pages_up_to n (drop (page_size (b ∷ s)) (b ∷ s))

-- the pages of s, each beginning where the last one ended; the end of s may cut the last one off. (A page has at least one byte, so s has no more pages than bytes)
unfoldable pub pages_of : List ℕ → List (List ℕ)
pages_of s = pages_up_to (length s) s

-- a page that is not cut off
unfoldable pub whole_page : List ℕ → Bool
whole_page p = leb (page_size p) (length p)
