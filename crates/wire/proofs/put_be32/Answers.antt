use Rattle.wire.proofs.Numbers.{bytes_32}
use Rattle.wire.proofs.put_be32.Goals as goal

pub returns : goal.returns
returns c = rw (← bytes_32 c.args.x, ← c.to_be_bytes.ensures) c.put_bytes.ensures
