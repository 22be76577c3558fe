use Rattle.std.proofs.Common.{rules, arith}
use Rattle.std.proofs.lemmas.Iterator.Search.{find_from_yields_List}
use borrow.Author.Tests.{tests}
use Rattle.audit.specs.Ledger.{same_row}
use Rattle.audit.proofs.Runs.{chunks_are_runs}
use Rattle.audit.proofs.ledger.held.Goals as goal

pub returns : goal.returns
returns c =
    let a = c.args in
    find_from_yields_List (same_row a.row.now) _ _ c.find.result c.find.ensures.ran (chunks_are_runs 14 a.standing.now (omega arith) (cc) (cc)) (λ x b q k. search (rules, tests))
