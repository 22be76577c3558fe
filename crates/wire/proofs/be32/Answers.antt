use Rattle.std.proofs.Common.{◌∙◌}
use Rattle.wire.proofs.Numbers.{be_32}
use Rattle.wire.proofs.be32.Goals as goal

pub returns : goal.returns
returns c = c.from_be_bytes.ensures ∙ be_32 _ _ _ c.bytes_at.ensures
