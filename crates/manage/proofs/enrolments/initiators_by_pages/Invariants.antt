-- The pages that are left do the rest; the number of initiators stays.
use Prim.Native.Nat.{◌≤◌}
use mathlib.Core.Path.{◌≡◌}
use Rattle.lists.specs.Pages.{pages_of}
use Rattle.manage.specs.EndState.{in_order, initiators_by}
use Rattle.manage.proofs.enrolments.initiators_by_pages.Given as goal

abbrev pub invariant-loop-page : goal.invariant-loop-page
invariant-loop-page l = (l.next.count ≤ 16) × (in_order initiators_by (pages_of l.pages) l.initial.next ≡ in_order initiators_by l.page-iterator l.next)
