-- What is left are the lines of the units that are left.
use Rattle.std.proofs.Common.{◌+◌, ◌*◌, ◌≤◌, length, get_or}
use Rattle.lists.specs.Lists.{gather}
use Rattle.lists.proofs.Places.{between}
use Rattle.wire.specs.Write.{writes}
use Rattle.wire.proofs.Writing.{Left}
use Rattle.acl.specs.State.{unit_line}
use Rattle.acl.proofs.units.put_lines.Given as goal

abbrev pub invariant-loop-unit : goal.invariant-loop-unit
invariant-loop-unit l = record {
  near : l.to ≤ l.at + 37 * l.unit;
  left : Left l.limit l.to (gather (λ u. unit_line u (get_or l.luns u 0)) (between l.unit (length l.luns))) l.text (l.at + length (gather (λ u. unit_line u (get_or l.luns u 0)) (between 0 (length l.luns)))) (writes l.limit l.at (gather (λ u. unit_line u (get_or l.luns u 0)) (between 0 (length l.luns))) l.initial.text);
}
