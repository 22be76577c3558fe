-- The place of the first default LUN that is this one, or their number.
use Rattle.std.proofs.Common.{rules, ap, length}
use Rattle.std.proofs.lemmas.Iterator.{YieldsList-from_slice}
use Rattle.std.proofs.lemmas.Iterator.Search.{position_from_yields_List}
use Rattle.std.specs.Option.{unwrap_or}
use mathlib.Core.Path.{◌∙◌}
use borrow.Author.Tests.{tests}
use Rattle.paper.specs.Pages.{is_default}
use Rattle.manage.proofs.Standing.{place_or_length}
use Rattle.manage.proofs.luacds.unit_with.Goals as goal

pub returns : goal.returns
returns c =
    let found = position_from_yields_List (is_default c.args.l) c.position-unit.new.self _ _ c.position-unit.ensures.ran (YieldsList-from_slice c.args.luns.now cc) (λ x b q k. search (rules, tests)) in
    c.unwrap_or.ensures ∙ ap (λ o. unwrap_or o (length c.args.luns.now)) found ∙ place_or_length _ _
