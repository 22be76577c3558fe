-- Each descriptor of the run is asked.
use Rattle.std.proofs.Common.{rules}
use Rattle.std.proofs.lemmas.Iterator.Consumers.{YieldsList-from_rest}
use Rattle.std.proofs.lemmas.Iterator.Search.{any_from_yields_List}
use borrow.Author.Tests.{tests}
use Rattle.paper.specs.Pages.{bad_place}
use Rattle.pages.proofs.places.bad_place_in.Goals as goal

pub returns : goal.returns
returns c = any_from_yields_List (bad_place c.args.luns.now) c.any.new.self _ _ c.any.ensures.ran (YieldsList-from_rest _ c.descriptors_in.ensures) (λ x b q k. search (rules, tests))
