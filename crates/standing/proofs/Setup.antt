-- The setup rules, by the tables that a coordinator keeps.
use Prim.Native.Nat.{◌≤◌}
use mathlib.Core.Path.{◌≡◌, ◌∙◌}
use mathlib.Core.List.{map}
use mathlib.Core.Bool.{not, true, ◌&&◌}
use borrow.Author.Tests.{le-leb}
use lib.ListN.{length, length-map}
use lib.Dec.{eqb, leb}
use Rattle.lists.specs.Lists.{all, pairs}
use Rattle.lists.specs.Bytes.{same_bytes}
use Rattle.lists.proofs.Members.{all_map, pairs_map}
use Rattle.lists.proofs.Parts.{length_parts}
use Rattle.lists.proofs.Places.{pairs_same}
use Rattle.wire.specs.Lun.{lun_of, lun_form}
use Rattle.paper.specs.Identifiers.{valid_transport}
use Rattle.paper.specs.Setup.{setup_rules}
use Rattle.paper.specs.Tables.{units_of, transports_of}
use Rattle.paper.specs.Standing.{lun_formed, setup_kept, within_sizes}
use Rattle.paper.proofs.Stood.{counted}
use Rattle.paper.proofs.Luns.{same_lun}
use Rattle.paper.specs.declared.state.Coordinator.{Coordinator}

pub setup_by : (c : Coordinator) → length (units_of c) ≤ 32 → setup_kept c ≡ leb c.initiators.count 16 && (all valid_transport (transports_of c) && (not (pairs (same_bytes 24) (transports_of c)) && (all lun_formed (units_of c) && not (pairs eqb (units_of c)))))
unfolding setup_kept setup_rules
setup_by c m =
    let k : length (map lun_of (units_of c)) ≤ 32 = rw length-map m in
    let once : pairs eqb (map lun_of (units_of c)) ≡ pairs eqb (units_of c) = pairs_map lun_of eqb (units_of c) ∙ pairs_same _ _ same_lun (units_of c) in
    rw (length_parts 24 c.initiators.count c.initiators.ids, le-leb _ _ k, all_map lun_of lun_form (units_of c), once)

-- what a search for a clash needs
pub few_initiators : (c : Coordinator) → within_sizes c ≡ true → c.initiators.count ≤ 16
few_initiators c h = (counted c h).few_initiators
