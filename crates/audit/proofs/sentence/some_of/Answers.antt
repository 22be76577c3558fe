use Rattle.std.proofs.Common.{rules}
use Rattle.std.proofs.lemmas.Iterator.Search.{any_from_yields_List}
use borrow.Author.Tests.{tests}
use Rattle.audit.specs.Sentence.{is_of}
use Rattle.audit.proofs.Runs.{chunks_are_runs}
use Rattle.audit.proofs.sentence.some_of.Goals as goal

pub returns : goal.returns
returns c =
    let a = c.args in
    any_from_yields_List (is_of a.a a.i a.waits) _ _ _ c.any.ensures.ran (chunks_are_runs a.size a.runs.now c.requires (cc) (cc)) (λ x b q k. search (rules, tests))
