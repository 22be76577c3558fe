use Rattle.wire.proofs.Numbers.{bytes_64}
use Rattle.wire.proofs.put_be64.Goals as goal

pub returns : goal.returns
returns c = rw (← bytes_64 c.args.x, ← c.to_be_bytes.ensures) c.put_bytes.ensures
