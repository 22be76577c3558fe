-- The bytes that are listed, and zeros behind them.
use Rattle.coordinator.proofs.Setting.{initiators_built}
use Rattle.coordinator.proofs.setup.initiators_of.Goals as goal

pub returns : goal.returns
returns c = rw c.copy_from_slice.ensures.after (initiators_built c.args.listed.now c.requires.0)
