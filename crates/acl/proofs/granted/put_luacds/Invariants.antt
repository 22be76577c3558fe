-- What is left are the LUACDs that are left.
use Rattle.std.proofs.Common.{◌+◌, ◌*◌, ◌≤◌, length, drop}
use Rattle.wire.specs.Write.{writes}
use Rattle.wire.proofs.Writing.{Left}
use Rattle.acl.specs.State.{luacds_text}
use Rattle.acl.proofs.granted.put_luacds.Given as goal

abbrev pub invariant-loop-k : goal.invariant-loop-k
invariant-loop-k l = record {
  near : l.to ≤ l.at + 34 * l.k;
  left : Left l.limit l.to (luacds_text l.k (drop l.k l.used)) l.text (l.at + length (luacds_text 0 l.used)) (writes l.limit l.at (luacds_text 0 l.used) l.initial.text);
}
