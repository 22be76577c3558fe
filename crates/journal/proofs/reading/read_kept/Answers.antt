-- What is left of a line is skipped, or is read.
use Rattle.journal.proofs.Exits.{read_plainly, ok_so, err_so, kept_none, kept_said}
use Rattle.journal.proofs.reading.read_kept.Goals as goal

pub returns-then-is_skipped-clause-ok : goal.returns-then-is_skipped-clause-ok
returns-then-is_skipped-clause-ok c =
    read_plainly c.from.ensures (λ a b. kept_none c.args.s.now c.is_skipped.ensures c.if-is_skipped.true)

pub returns-clause-ok : goal.returns-clause-ok
returns-clause-ok c =
    ok_so c.read_statement.result c.read_statement.new.first c.read_statement.new.second (kept_said c.args.s.now c.is_skipped.ensures c.if-is_skipped.false) c.read_statement.ensures.ok

pub returns-clause-err : goal.returns-clause-err
returns-clause-err c =
    err_so c.read_statement.result (kept_said c.args.s.now c.is_skipped.ensures c.if-is_skipped.false) c.read_statement.ensures.err
