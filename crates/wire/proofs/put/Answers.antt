-- The byte is written where it is below the limit and in the buffer, and nothing is touched elsewhere.
use native.Mathlib.Omega.{arith}
use Rattle.wire.proofs.Writing.{wrote_in, wrote_nothing}
use Rattle.wire.proofs.put.Goals.{then-at-limit+then-at-buf, else-at-limit, else-at-limit-via-then-at-limit+else-at-buf, else-at-limit-via-else-at-limit}
use Rattle.wire.proofs.put.Goals as goal

pub returns : goal.returns
returns c =
    elim c.if-at-limit.branch [
      | then-at-limit+then-at-buf w ↦ rw w.buf-is (wrote_in _ _ _ _ w.if-at-limit.true)
      | else-at-limit w ↦ rw w.buf-is (elim w.else-at-limit.branch [
        | else-at-limit-via-then-at-limit+else-at-buf v ↦ wrote_nothing _ _ _ _ (omega arith)
        | else-at-limit-via-else-at-limit v ↦ wrote_nothing _ _ _ _ (omega arith)
      ])
    ]
