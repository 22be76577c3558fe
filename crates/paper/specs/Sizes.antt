-- "Sizes: 16 initiators, 32 units, 32 ACEs, 16 LUACDs standing in one ACE, 32 live tokens, 32 proxy LUNs over all initiators."
use Rattle.std.specs.Prelude.{ℕ, ◌+◌, ◌*◌}

abbrev pub max_initiators : ℕ
max_initiators = 16

abbrev pub max_units : ℕ
max_units = 32

abbrev pub max_aces : ℕ
max_aces = 32

abbrev pub max_luacds : ℕ
max_luacds = 16

abbrev pub max_tokens : ℕ
max_tokens = 32

abbrev pub max_proxies : ℕ
max_proxies = 32

-- "a TransportID is 24 bytes", "An AccessID identifier is 24 bytes"
abbrev pub id_size : ℕ
id_size = 24

-- an enrolment is kept as its stage, one byte, and the AccessID
abbrev pub enrolment_size : ℕ
enrolment_size = 1 + id_size

-- the bytes of the TransportIDs, and of the enrolments, of as many initiators as there may be
abbrev pub ids_size : ℕ
ids_size = max_initiators * id_size

abbrev pub enrolments_size : ℕ
enrolments_size = max_initiators * enrolment_size
