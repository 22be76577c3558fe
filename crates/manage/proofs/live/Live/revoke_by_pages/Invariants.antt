-- The pages that are left do the rest.
use mathlib.Core.Path.{◌≡◌}
use Rattle.lists.specs.Pages.{pages_of}
use Rattle.manage.specs.EndState.{in_order, live_by}
use Rattle.manage.proofs.live.Live.revoke_by_pages.Given as goal

abbrev pub invariant-loop-page : goal.invariant-loop-page
invariant-loop-page l = in_order live_by (pages_of l.pages) l.initial.self ≡ in_order live_by l.page-iterator l.self
