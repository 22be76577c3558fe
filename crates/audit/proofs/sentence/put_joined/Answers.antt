use lib.ListN.{length}
use Rattle.wire.proofs.Writing.{then}
use Rattle.audit.specs.Sentence.{joined}
use Rattle.audit.proofs.Writers.{laid_next, laid_end, below_next, below_end, ends_within}
use Rattle.audit.proofs.Sentences.{name_most}
use Rattle.audit.proofs.sentence.put_joined.Goals as goal

pub loop-k-preserved : goal.loop-k-preserved
unfolding joined
loop-k-preserved c =
    let names = c.args.names.now in
    let wrote = then c.put_before-next.ensures c.put_decimal-to.ensures in
    laid_next c.loop-k.invariant (below_next (length names) c.loop-k-test.true) (ends_within (name_most names c.loop-k.k) wrote) wrote

pub returns : goal.returns
unfolding joined
returns c =
    let names = c.args.names.now in
    laid_end c.loop-k.invariant (below_end (length names) c.loop-k-test.false)
