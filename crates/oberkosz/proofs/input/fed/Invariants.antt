-- Part after part of the chunk; what is left of it leads on from where the program is.
use Rattle.std.proofs.Common.{◌+◌, ◌≤◌, length}
use Rattle.audit.specs.Following.{Auditing, fed}
use Rattle.oberkosz.specs.Places.{inquiry_of, At, Sound}
use Rattle.oberkosz.proofs.Feeding.{Reached}
use Rattle.oberkosz.proofs.input.fed.Given as goal

abbrev pub invariant-loop-rest : goal.invariant-loop-rest
invariant-loop-rest g l =
    Sound l.q
    × (l.q.number + length l.rest ≤ l.initial.q.number + length l.chunk)
    × ((x : Auditing) → At l.task l.initial.q l.initial.buffers.line l.initial.buffers.standing l.initial.buffers.ended x → Reached l.task l.q l.buffers.line l.buffers.standing l.buffers.ended l.rest (fed (inquiry_of l.task) x l.chunk))

abbrev pub decreases-loop-rest : goal.decreases-loop-rest
decreases-loop-rest g l = length l.rest
