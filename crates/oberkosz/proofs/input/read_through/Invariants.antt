-- Each turn reads at most 65,536 bytes, and so adds at most as many lines.
use Rattle.std.proofs.Common.{◌+◌, ◌*◌, ◌≤◌}
use Rattle.oberkosz.specs.Places.{Sound}
use Rattle.oberkosz.proofs.input.read_through.Given as goal

abbrev pub invariant-loop-turn : goal.invariant-loop-turn
invariant-loop-turn g l = Sound l.p × (l.p.number ≤ 1 + l.turn * 65536)
