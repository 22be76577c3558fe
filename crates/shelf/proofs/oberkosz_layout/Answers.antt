-- Behind the last number there is nothing.
use Prim.Native.Nat.{◌≤◌}
use mathlib.Core.Path.{sym}
use native.Mathlib.Omega.{arith}
use lib.ListN.{get_or-eq_default}
use Rattle.shelf.specs.Layout.{layout}
use Rattle.shelf.proofs.oberkosz_layout.Goals as goal

pub returns-in_default : goal.returns-in_default
returns-in_default c =
    let behind : 54 ≤ c.args.entry = omega arith in
    sym (get_or-eq_default layout 0 behind)
