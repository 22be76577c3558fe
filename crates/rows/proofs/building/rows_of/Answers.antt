-- While on, the grounds are appended in the order of the definition; while off, the units are.
use Rattle.std.proofs.Common.{arith, ap}
use Rattle.paper.specs.Rows.{proxy_rows, open_rows}
use Rattle.rows.proofs.Initiator.{rows_by}
use Rattle.rows.proofs.Appending.{join_both, joined_table}
use Rattle.rows.proofs.building.rows_of.Goals as goal

pub with_transport-requires : goal.with_transport-requires
with_transport-requires c = (omega (arith, ap (λ r. r.count) c.no_rows-rows.ensures), c.requires)

pub with_access-requires : goal.with_access-requires
with_access-requires c = (omega (arith, ap (λ r. r.count) c.no_rows-rows.ensures, c.with_transport.ensures.few), c.requires)

pub with_proxies-requires : goal.with_proxies-requires
with_proxies-requires c = (omega (arith, ap (λ r. r.count) c.no_rows-rows.ensures, c.with_transport.ensures.few, c.with_access.ensures.few), c.in_use-then-c.ensures.few)

pub returns-then-c : goal.returns-then-c
unfolding proxy_rows open_rows
returns-then-c c =
    rw (rows_by c.args.c.now c.args.i c.if-c.true, ← c.in_use.ensures.in_use, ← c.in_use-then-c.ensures.in_use)
    (joined_table c.no_rows-rows.ensures (join_both c.with_transport.ensures (join_both c.with_access.ensures c.with_proxies.ensures)) (omega arith))

pub with_units-requires : goal.with_units-requires
with_units-requires c = (omega (arith, ap (λ r. r.count) c.no_rows-rows.ensures), c.in_use-else-c.ensures.few)

pub returns-else-c : goal.returns-else-c
unfolding proxy_rows open_rows
returns-else-c c = rw (rows_by c.args.c.now c.args.i c.if-c.false, ← c.in_use-else-c.ensures.in_use) (joined_table c.no_rows-rows.ensures c.with_units.ensures (omega arith))
