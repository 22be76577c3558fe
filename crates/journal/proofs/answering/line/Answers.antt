-- Three writers from 0 on; the line has room in the buffer, so it stands at its start.
use Rattle.journal.proofs.Told.{told, line_most}
use Rattle.wire.proofs.Writing.{then}
use native.Mathlib.Omega.{arith}
use Rattle.journal.proofs.answering.line.Goals as goal

pub returns : goal.returns
returns g c =
    let a = c.args in
    let both = told (then (then c.put_bytes-at.ensures c.put-end.ensures) c.put.ensures) (line_most a.word.now (g.T.Told.told a.told) (omega (arith, c.requires.0)) (omega (arith, c.requires.2, c.requires.3))) c.requires.4 c.requires.4 in
    record { text = both.0; room = both.1 }
