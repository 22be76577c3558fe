use Rattle.wire.proofs.Numbers.{bytes_16}
use Rattle.wire.proofs.put_be16.Goals as goal

pub returns : goal.returns
returns c = rw (← bytes_16 c.args.x, ← c.to_be_bytes.ensures) c.put_bytes.ensures
