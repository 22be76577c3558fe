-- The pairs of the pages that are left decide.
use mathlib.Core.Path.{◌≡◌}
use lib.ListN.{length}
use Rattle.lists.specs.Lists.{pairs}
use Rattle.paper.specs.Pages.{ace_pages, same_grant}
use Rattle.pages.proofs.form.two_grants.Given as goal

abbrev pub invariant-loop-page : goal.invariant-loop-page
invariant-loop-page l = pairs same_grant (ace_pages l.list) ≡ pairs same_grant l.pages

abbrev pub decreases-loop-page : goal.decreases-loop-page
decreases-loop-page l = length l.pages
