-- The initiator's part of the TransportIDs is its TransportID.
use mathlib.Core.List.{[]}
use Rattle.lists.proofs.Parts.{get_or_parts}
use Rattle.paper.specs.Rows.{transport_rows}
use Rattle.rows.proofs.building.with_transport.Goals as goal

pub returns : goal.returns
unfolding transport_rows
returns c = rw (get_or_parts 24 _ _ _ [] c.requires.1.there, ← c.transport_part-id.ensures) c.with_identifier.ensures
