-- What is left are the lines of the initiators that are left.
use Rattle.std.proofs.Common.{◌+◌, ◌*◌, ◌≤◌, [], map, length, get_or}
use Rattle.lists.specs.Lists.{gather, parts}
use Rattle.lists.proofs.Places.{between}
use Rattle.wire.specs.Write.{writes}
use Rattle.wire.proofs.Writing.{Left}
use Rattle.paper.specs.Contents.{not_enrolled}
use Rattle.paper.specs.Tables.{enrolment_in}
use Rattle.acl.specs.State.{initiator_line}
use Rattle.acl.proofs.initiators.put_lines.Given as goal

abbrev pub invariant-loop-i : goal.invariant-loop-i
invariant-loop-i l = record {
  near : l.to ≤ l.at + 157 * l.i;
  left : Left l.limit l.to (gather (λ m. initiator_line m (get_or (parts 24 l.t.count l.t.ids) m []) (get_or (map enrolment_in (parts 25 l.t.count l.t.enrolments)) m not_enrolled)) (between l.i l.i-end)) l.text (l.at + length (gather (λ m. initiator_line m (get_or (parts 24 l.t.count l.t.ids) m []) (get_or (map enrolment_in (parts 25 l.t.count l.t.enrolments)) m not_enrolled)) (between 0 l.i-end))) (writes l.limit l.at (gather (λ m. initiator_line m (get_or (parts 24 l.t.count l.t.ids) m []) (get_or (map enrolment_in (parts 25 l.t.count l.t.enrolments)) m not_enrolled)) (between 0 l.i-end)) l.initial.text);
}
