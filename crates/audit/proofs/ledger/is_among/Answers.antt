use Rattle.std.proofs.Common.{rules, arith}
use Rattle.std.proofs.lemmas.Iterator.Search.{any_from_yields_List}
use borrow.Author.Tests.{tests}
use Rattle.audit.specs.Ledger.{same_row}
use Rattle.audit.proofs.Runs.{chunks_are_runs}
use Rattle.audit.proofs.ledger.is_among.Goals as goal

pub returns : goal.returns
returns c =
    let a = c.args in
    any_from_yields_List (same_row a.e.now) _ _ _ c.any.ensures.ran (chunks_are_runs 4 a.rows.now (omega arith) (cc) (cc)) (λ x b q k. search (rules, tests))
