-- A line that is too long says so; any other is read without its CR, which makes it no longer.
use mathlib.Core.Path.{ap, ◌∙◌}
use Rattle.journal.specs.Statements.{read_kept}
use Rattle.journal.proofs.Lengths.{cr_short}
use Rattle.journal.proofs.Exits.{read_plainly, reads_so, line_long, line_kept}
use Rattle.journal.proofs.reading.read_line.Goals as goal

pub returns-then-line-gt262144 : goal.returns-then-line-gt262144
returns-then-line-gt262144 c =
    read_plainly c.from.ensures (λ a b. line_long _ c.if-line-gt262144.true)

pub read_kept-requires : goal.read_kept-requires
read_kept-requires c =
    (cr_short c.args.line.now c.without_cr.ensures c.if-line-gt262144.false, c.requires.0, c.requires.1)

pub returns-in-Ok : goal.returns-in-Ok
returns-in-Ok c =
    reads_so (ap read_kept c.without_cr.ensures ∙ line_kept _ c.if-line-gt262144.false) c.in-Ok.ensures.ok

pub returns-in-Err : goal.returns-in-Err
returns-in-Err c =
    read_plainly c.from-in-Err.ensures (λ a b. c.in-Err.ensures.err ∙ (ap read_kept c.without_cr.ensures ∙ line_kept _ c.if-line-gt262144.false))
