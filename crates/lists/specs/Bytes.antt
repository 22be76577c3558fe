-- Lists of bytes: numbers, most significant byte first; runs compared over a length; bytes laid into a buffer.
use Rattle.std.specs.Prelude.{ℕ, zero, suc, ◌+◌, ◌*◌, ◌/◌, ◌%◌, List, [], ◌∷◌, ◌++◌, Bool, true, false, ◌&&◌, ◌||◌, length, get_or, take, drop, eqb, ltb}

-- the number that n bytes from a place on make; a byte past the end counts as 0
unfoldable pub be : ℕ → List ℕ → ℕ → ℕ
be zero s at = 0
be (suc n) s at = be n s at * 256 + get_or s (at + n) 0

-- the n bytes of a number
unfoldable pub be_bytes : ℕ → ℕ → List ℕ
be_bytes zero x = []
be_bytes (suc n) x = be_bytes n (x / 256) ++ (x % 256 ∷ [])

-- two runs of bytes agree in their first n
unfoldable pub same_bytes : ℕ → List ℕ → List ℕ → Bool
same_bytes zero a b = true
same_bytes (suc n) a b = same_bytes n a b && eqb (get_or a n 0) (get_or b n 0)

-- the first n bytes of one run are less than another's: unsigned, the first byte foremost
unfoldable pub less_bytes : ℕ → List ℕ → List ℕ → Bool
less_bytes zero a b = false
less_bytes (suc n) a b = less_bytes n a b || (same_bytes n a b && ltb (get_or a n 0) (get_or b n 0))

-- a buffer with bytes at its start, as many as it has room for; the rest of it is kept
unfoldable pub deliver : List ℕ → List ℕ → List ℕ
deliver bytes buffer = take (length buffer) bytes ++ drop (length bytes) buffer
