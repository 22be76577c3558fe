use mathlib.Core.Path.{◌∙◌}
use native.Mathlib.Omega.{arith}
use lib.ListN.{drop_of_length-le}
use Rattle.wire.proofs.Writing.{left_step, left_end}
use Rattle.journal.proofs.Runs.{next_byte}
use Rattle.journal.proofs.Printed.{hex_more, hex_end}
use Rattle.journal.proofs.printing.put_hex.Goals as goal

pub loop-b-preserved : goal.loop-b-preserved
loop-b-preserved c =
    let v = c.loop-b.invariant in (
      omega (arith, c.put_pair-to.ensures.ended, v.0),
      c.put_pair-to.auto.buf ∙ v.1,
      left_step (hex_more (next_byte _ _ c.loop-b-test.true)) v.2 c.put_pair-to.ensures,
    )

pub returns : goal.returns
returns c = left_end (hex_end (drop_of_length-le c.args.src.now c.loop-b-test.false)) c.loop-b.invariant.2
