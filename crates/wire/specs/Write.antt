-- Bytes that are written into a lent buffer, from a place on and below a limit.
use Rattle.std.specs.Prelude.{ℕ, suc, ◌+◌, List, [], ◌∷◌, ◌≡◌, cond, length, set, ltb}

-- one byte at a place, if that is below the limit and in the buffer
unfoldable pub put_at : ℕ → ℕ → ℕ → List ℕ → List ℕ
put_at limit at b buf = cond (ltb at limit) (set buf at b) buf

-- bytes one after the other
unfoldable pub writes : ℕ → ℕ → List ℕ → List ℕ → List ℕ
writes limit at [] buf = buf
writes limit at (x ∷ xs) buf = writes limit (suc at) xs (put_at limit at x buf)

-- a writer has written xs from `at` on: it ended at `next`, and the buffer that was `old` is `new`
pub record Wrote (limit at : ℕ) (xs old : List ℕ) (next : ℕ) (new : List ℕ) : Type 0 where
  pub ended : next ≡ at + length xs
  pub holds : new ≡ writes limit at xs old
