-- "A setup lists the initiators' 24-byte TransportIDs, all different and valid, and the units' default LUNs, all different."
use Rattle.std.specs.Prelude.{ℕ, ◌/◌, ◌%◌, List, map, Bool, not, ◌&&◌, length, eqb, leb}
use Rattle.lists.specs.Lists.{all, pairs, parts}
use Rattle.lists.specs.Bytes.{be, same_bytes}
use Rattle.wire.specs.Lun.{lun_form, head_of}
use Rattle.paper.specs.Sizes.{max_initiators, max_units, id_size}
use Rattle.paper.specs.Identifiers.{valid_transport}

-- what a setup lists: the TransportIDs by initiator number, the first two bytes of the default LUNs by unit number. "Initiators and units are numbered from 0 in setup order."
pub record Setup : Type 0 where
  pub transports : List (List ℕ)
  pub luns : List ℕ

-- "Zero initiators or units is allowed." "H: a LUN is 00h, nn, then six 00h; default LUNs too."
unfoldable pub setup_rules : List (List ℕ) → List ℕ → Bool
setup_rules ids luns =
    leb (length ids) max_initiators
    && (leb (length luns) max_units
    && (all valid_transport ids
    && (not (pairs (same_bytes id_size) ids)
    && (all lun_form luns
    && not (pairs eqb luns)))))

-- the TransportIDs and the default LUNs that a setup's bytes list
unfoldable pub ids_in : List ℕ → List (List ℕ)
ids_in bytes = parts id_size (length bytes / id_size) bytes

abbrev pub whole_lun : List ℕ → ℕ
whole_lun bytes = be 8 bytes 0

unfoldable pub luns_in : List ℕ → List ℕ
luns_in bytes = map whole_lun (parts 8 (length bytes / 8) bytes)

abbrev pub setup_in : List ℕ → List ℕ → Setup
setup_in ids luns = record { transports = ids_in ids; luns = map head_of (luns_in luns) }

-- a setup that keeps the rules; a cut TransportID or LUN at the end breaks them
unfoldable pub accepted : List ℕ → List ℕ → Bool
accepted ids luns =
    eqb (length ids % id_size) 0 && (eqb (length luns % 8) 0 && setup_rules (ids_in ids) (luns_in luns))
