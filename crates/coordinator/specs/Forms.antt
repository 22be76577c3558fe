-- What is tested of a setup before its tables are filled.
use Rattle.std.specs.Prelude.{ℕ, ◌*◌, ◌%◌, List, Bool, ◌&&◌, length, eqb, leb}
use Rattle.lists.specs.Lists.{all}
use Rattle.wire.specs.Lun.{lun_form}
use Rattle.paper.specs.Sizes.{max_units, id_size, ids_size}
use Rattle.paper.specs.Setup.{luns_in}

-- whole TransportIDs and LUNs, no more than the tables have room for, and LUNs of the form
unfoldable pub fills : List ℕ → List ℕ → Bool
fills ids luns =
    eqb (length ids % id_size) 0
    && (eqb (length luns % 8) 0
    && (leb (length ids) ids_size
    && (leb (length luns) (8 * max_units)
    && all lun_form (luns_in luns))))
