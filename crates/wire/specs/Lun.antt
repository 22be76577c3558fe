-- H: a LUN is 00h, nn, then six 00h. A LUN is handled as its eight bytes read as one number, the first byte the most significant.
use Rattle.std.specs.Prelude.{ℕ, ◌*◌, ◌/◌, ◌%◌, Bool, ◌&&◌, eqb, ltb}

-- the LUN whose first two bytes make this number, the other six being 00h
abbrev pub lun_of : ℕ → ℕ
lun_of h = h * 281474976710656

-- the number that the first two bytes of a LUN make
abbrev pub head_of : ℕ → ℕ
head_of l = l / 281474976710656

-- 00h, nn, then six 00h
abbrev pub lun_form : ℕ → Bool
lun_form l = eqb (l % 281474976710656) 0 && ltb (head_of l) 256
