-- The grounds of a row, by the paper's letters.
use Rattle.std.specs.Prelude.{ℕ, Bool, true, false}
use Rattle.paper.specs.declared.state.Ground.{Ground}
use Rattle.paper.specs.declared.state.Ground.TheVariants.{GroundA, GroundO, GroundT, GroundW, GroundX}

-- "ground in ASCII"
abbrev pub letter_of : Ground → ℕ
letter_of GroundA = 0x41
letter_of GroundO = 0x4F
letter_of GroundT = 0x54
letter_of GroundW = 0x57
letter_of GroundX = 0x58

-- "two rows of T, A, W with one unit and two LUNs"
abbrev pub is_taw : Ground → Bool
is_taw GroundA = true
is_taw GroundO = false
is_taw GroundT = true
is_taw GroundW = true
is_taw GroundX = false

-- "the unit of a T, A, X or O row with that LUN"
abbrev pub opens_by : Ground → Bool
opens_by GroundA = true
opens_by GroundO = true
opens_by GroundT = true
opens_by GroundW = false
opens_by GroundX = true

-- "the LUN must open by a T or A row"
abbrev pub is_ta : Ground → Bool
is_ta GroundA = true
is_ta GroundO = false
is_ta GroundT = true
is_ta GroundW = false
is_ta GroundX = false

abbrev pub is_w : Ground → Bool
is_w GroundA = false
is_w GroundO = false
is_w GroundT = false
is_w GroundW = true
is_w GroundX = false
