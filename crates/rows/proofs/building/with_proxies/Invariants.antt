-- What the proxy LUNs that are left give is yet to be appended; one of another initiator, or of a dead token, gives nothing.
use Rattle.std.proofs.Common.{drop}
use Rattle.lists.specs.Lists.{keep, gather}
use Rattle.paper.specs.Rows.{owned_by, row_of_proxy}
use Rattle.rows.proofs.Appending.{Appending}
use Rattle.rows.proofs.building.with_proxies.Given as goal

abbrev pub invariant-loop-p : goal.invariant-loop-p
invariant-loop-p l =
    let f = row_of_proxy l.live in
    Appending l.initial.rows (gather f (keep (owned_by l.i) l.proxies)) (gather f (keep (owned_by l.i) (drop l.p-index l.proxies))) l.rows l.p-index
