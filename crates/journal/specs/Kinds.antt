-- The kinds of words, and what they stand for.
use Rattle.std.specs.Prelude.{ℕ, ◌+◌, ◌-◌, ◌*◌, ◌%◌, List, [], ◌∷◌, Bool, cond, not, ◌&&◌, ◌||◌, length, get_or, eqb, leb, ltb}
use Rattle.lists.specs.Lists.{all}
use Rattle.lists.specs.Bytes.{be}

-- ---- digits
abbrev pub is_digit : ℕ → Bool
is_digit b = leb 0x30 b && leb b 0x39

-- "hex digits .. in either case"; 16 for a byte that is none
unfoldable pub hex_value : ℕ → ℕ
hex_value b =
    cond (is_digit b) (b - 0x30)
    (cond (leb 0x61 b && leb b 0x66) (b - 0x57)
    (cond (leb 0x41 b && leb b 0x46) (b - 0x37)
    16))

abbrev pub is_hex : ℕ → Bool
is_hex b = ltb (hex_value b) 16

-- ---- bytes: "an even number of hex digits, two a byte, .. at least one byte; or `-`, the empty byte string"
abbrev pub is_dash : List ℕ → Bool
is_dash w = eqb (length w) 1 && eqb (get_or w 0 0) 0x2D

unfoldable pub is_bytes : List ℕ → Bool
is_bytes w = is_dash w || (not (eqb (length w) 0) && (eqb (length w % 2) 0 && all is_hex w))

-- two digits a byte
unfoldable pub hex_bytes : List ℕ → List ℕ
hex_bytes [] = []
hex_bytes (a ∷ []) = []
hex_bytes (a ∷ (b ∷ s)) = (hex_value a * 16 + hex_value b) ∷ hex_bytes s

unfoldable pub bytes_of : List ℕ → List ℕ
bytes_of w = cond (is_dash w) [] (hex_bytes w)

-- ---- list: "bytes, at most 65,536 of them"
unfoldable pub is_list : List ℕ → Bool
is_list w = is_bytes w && leb (length (bytes_of w)) 65536

-- ---- number: "one or more of the digits 0 to 9, no sign, with a value below .. 2^64"
unfoldable pub decimal_from : ℕ → List ℕ → ℕ
decimal_from n [] = n
decimal_from n (b ∷ s) = decimal_from (n * 10 + (b - 0x30)) s

abbrev pub decimal_of : List ℕ → ℕ
decimal_of w = decimal_from 0 w

unfoldable pub is_number : List ℕ → Bool
is_number w = not (eqb (length w) 0) && (all is_digit w && ltb (decimal_of w) 18446744073709551616)

-- ---- buffer: "a number up to 65,536"
unfoldable pub is_buffer : List ℕ → Bool
is_buffer w = is_number w && leb (decimal_of w) 65536

-- ---- digits: "exactly 16 hex digits, in either case (not `-`)"
unfoldable pub is_digits : List ℕ → Bool
is_digits w = eqb (length w) 16 && all is_hex w

unfoldable pub digits_of : List ℕ → ℕ
digits_of w = be 8 (hex_bytes w) 0
