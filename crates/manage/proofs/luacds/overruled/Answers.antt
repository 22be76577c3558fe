-- Each later descriptor is asked.
use Rattle.std.proofs.Common.{rules, refl}
use Rattle.std.proofs.lemmas.Iterator.Consumers.{YieldsList-from_rest}
use Rattle.std.proofs.lemmas.Iterator.Search.{any_from_yields_List}
use borrow.Author.Tests.{tests}
use Rattle.paper.specs.Pages.{overrules}
use Rattle.manage.proofs.luacds.overruled.Goals as goal

pub returns : goal.returns
returns c = any_from_yields_List (overrules c.args.d.now) c.any.new.self _ _ c.any.ensures.ran (YieldsList-from_rest _ refl) (λ x b q k. search (rules, tests))
