-- The eight bytes of the number go to the start of the buffer.
use Rattle.std.proofs.Common.{arith}
use lib.Seq.{take_all}
use borrow.Author.Tests.{le-ltb}
use Rattle.lists.specs.Bytes.{be_bytes}
use Rattle.lists.proofs.Bytes.{bytes_length}
use Rattle.wire.proofs.Writing.{delivered}
use Rattle.commands.proofs.tokening.issue.Goals as goal

pub returns-clause-reply_after : goal.returns-clause-reply_after
returns-clause-reply_after c =
    let number = c.args.t.number in
    rw (le-ltb _ _ c.if-reply-lt8.false) (rw (take_all 8 (be_bytes 8 number) (omega (arith, bytes_length 8 number))) at (delivered c.put_be64.ensures))
