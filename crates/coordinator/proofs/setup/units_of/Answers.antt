-- Each LUN's first two bytes, and zeros behind them.
use Rattle.std.proofs.Common.{rules}
use Rattle.coordinator.proofs.Setting.{units_built}
use Rattle.coordinator.proofs.setup.units_of.Goals as goal

pub returns : goal.returns
returns c = units_built _ _ c.args.luns.now c.from_fn.result c.requires.0 c.requires.1 (λ k b q h. search rules) c.from_fn.ensures.items
