use Rattle.std.proofs.Common.{◌∙◌}
use Rattle.wire.proofs.Numbers.{be_16}
use Rattle.wire.proofs.be16.Goals as goal

pub returns : goal.returns
returns c = c.from_be_bytes.ensures ∙ be_16 _ _ _ c.bytes_at.ensures
