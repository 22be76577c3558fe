-- Identifiers: TransportIDs and AccessIDs.
use Rattle.std.specs.Prelude.{ℕ, List, Bool, ◌&&◌, ◌||◌, length, get_or, take, eqb, ltb}
use Rattle.lists.specs.Bytes.{same_bytes, less_bytes}
use Rattle.lists.specs.Tables.{pad}
use Rattle.paper.specs.Sizes.{id_size}
use Rattle.paper.specs.declared.state.IdType.{IdType}
use Rattle.paper.specs.declared.state.IdType.TheVariants.{AccessId, TransportId}

-- "identifier type not 00h (AccessID) or 01h"
abbrev pub type_byte : IdType → ℕ
type_byte AccessId = 0
type_byte TransportId = 1

abbrev pub same_type : IdType → IdType → Bool
same_type k l = eqb (type_byte k) (type_byte l)

-- of a TransportID "all 24 are compared"; of an AccessID "the first 16 are compared"
abbrev pub compared_bytes : IdType → ℕ
compared_bytes AccessId = 16
compared_bytes TransportId = id_size

-- one type and identifier
unfoldable pub same_id : IdType → List ℕ → IdType → List ℕ → Bool
same_id k a l b = same_type k l && same_bytes (compared_bytes k) a b

-- "pages by identifier type, then identifier, ascending"
unfoldable pub less_id : IdType → List ℕ → IdType → List ℕ → Bool
less_id k a l b = ltb (type_byte k) (type_byte l) || (same_type k l && less_bytes (compared_bytes k) a b)

-- "a TransportID is 24 bytes and starts with 00h (Fibre Channel) or 01h (parallel SCSI)"
unfoldable pub valid_transport : List ℕ → Bool
valid_transport id = eqb (length id) id_size && ltb (get_or id 0 0) 2

-- an identifier is kept, and reported, as the bytes that are compared: of an AccessID "the rest is reserved and reported as zero"
abbrev pub kept : IdType → List ℕ → List ℕ
kept k id = pad 0 id_size (take (compared_bytes k) id)
