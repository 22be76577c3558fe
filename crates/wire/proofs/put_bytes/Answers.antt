-- The run is stored as far as there is room for it, which may be nowhere.
use Rattle.std.proofs.Common.{◌≡◌, ◌+◌, ◌-◌, ◌∙◌, sym, length, arith}
use Rattle.std.proofs.Math.Seq.{take-length}
use Rattle.wire.proofs.Writing.{wrote_run, wrote_nothing}
use Rattle.wire.proofs.put_bytes.Goals as goal

pub returns-then-next-end : goal.returns-then-next-end
returns-then-next-end c =
    let k : c.args.at + length c.args.src.now - c.args.at ≡ length c.args.src.now = omega arith in
    rw k (wrote_run _ _ _ _ _ _ _ c.min-end.ensures (omega arith) (omega arith) (c.copy_from_slice.ensures.after ∙ sym (take-length c.args.src.now)))

pub returns-then-at-end : goal.returns-then-at-end
returns-then-at-end c = wrote_run _ _ _ _ _ _ _ c.min-end.ensures (omega arith) (omega arith) c.copy_from_slice-then-at-end.ensures.after

pub returns-else-at-end : goal.returns-else-at-end
returns-else-at-end c = wrote_nothing _ _ _ _ (omega arith)
