-- What is left of a line is answered and followed, if there is something.
use Rattle.std.proofs.Common.{rules}
use Rattle.oberkosz.proofs.Feeding.{ended_none, ended_some}
use Rattle.oberkosz.proofs.input.last_line.Goals as goal

pub returns-then-p-eq0-clause-ended : goal.returns-then-p-eq0-clause-ended
returns-then-p-eq0-clause-ended g c = λ x a. ended_none _ (search rules) a c.if-p-eq0.true

pub returns-clause-ended : goal.returns-clause-ended
returns-clause-ended g c =
    let done = c.step.ensures in
    λ x a.
    ended_some _ (search rules) a c.requires.0.used_fits c.if-p-eq0.false done.state done.place.0 done.place.1 done.kept
