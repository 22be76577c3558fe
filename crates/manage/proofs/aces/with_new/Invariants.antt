-- The ACEs of the pages that are left are added behind those so far, as long as there is room.
use mathlib.Core.List.{◌++◌}
use lib.ListN.{take}
use Rattle.lists.specs.Lists.{gather}
use Rattle.lists.specs.Pages.{pages_of}
use Rattle.manage.specs.EndState.{new_aces}
use Rattle.manage.proofs.Put.{Putting}
use Rattle.manage.proofs.aces.with_new.Given as goal

abbrev pub invariant-loop-page : goal.invariant-loop-page
invariant-loop-page l =
    Putting (take l.initial.next.count l.initial.next.items ++ gather (new_aces l.luns) (pages_of l.pages)) l.luns l.next l.page-iterator
