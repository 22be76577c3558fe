-- A part of a line lengthens it; a whole one is answered and followed.
use Rattle.std.proofs.Common.{arith, refl}
use borrow.Author.Tests.{not-true, not-false}
use Rattle.oberkosz.proofs.Feeding.{fed_part, fed_line, some_read}
use Rattle.oberkosz.proofs.input.one_line.Goals as goal

pub returns-then-not-taken-clause-fed : goal.returns-then-not-taken-clause-fed
returns-then-not-taken-clause-fed g c =
    λ x a.
    fed_part _ _ _ _ _ _ _ _ c.take_in-taken.ensures _ _ (not-true _ c.if-not-taken.true) refl refl refl refl refl a

pub returns-clause-sound : goal.returns-clause-sound
returns-clause-sound g c =
    let done = c.step-done.ensures in
    let read = some_read _ _ _ _ _ _ c.take_in-taken.ensures c.requires.1 in
    (record { used_fits = omega (arith, done.place.1); within = done.place.2 }, omega (arith, done.place.0), read.0, read.1)

pub returns-clause-fed : goal.returns-clause-fed
returns-clause-fed g c =
    let done = c.step-done.ensures in
    λ x a.
    fed_line _ _ _ _ _ _ _ _ c.take_in-taken.ensures _ _ (not-false _ c.if-not-taken.false) done.state done.place.0 done.place.1 done.kept a
