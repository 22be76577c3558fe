-- The chunks are the LUNs.
use Rattle.std.proofs.Common.{rules}
use borrow.Author.Tests.{tests}
use Rattle.std.proofs.lemmas.Iterator.Search.{all_from_yields_List}
use Rattle.wire.specs.Lun.{lun_form}
use Rattle.coordinator.proofs.Setting.{luns_yielded}
use Rattle.coordinator.proofs.setup.luns_formed.Goals as goal

pub returns : goal.returns
returns c =
    all_from_yields_List lun_form c.all.new.self _ _ c.all.ensures.ran (luns_yielded c.args.luns.now c.chunks_exact.ensures.size c.chunks_exact.ensures.rest) (λ x b q k. search (rules, tests))
