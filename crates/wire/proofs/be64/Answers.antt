use Rattle.std.proofs.Common.{◌∙◌}
use Rattle.wire.proofs.Numbers.{be_64}
use Rattle.wire.proofs.be64.Goals as goal

pub returns : goal.returns
returns c = c.from_be_bytes.ensures ∙ be_64 _ _ _ c.bytes_at.ensures
