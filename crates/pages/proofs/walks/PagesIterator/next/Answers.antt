-- No bytes are left and no page; or the first page comes, and those of what stands behind it are left.
use Rattle.std.proofs.Common.{rules, length, ap, sym, ◌∙◌}
use Rattle.lists.proofs.Pages.{pages_end}
use Rattle.pages.proofs.Walking.{pages_turn}
use Rattle.pages.proofs.walks.PagesIterator.next.Goals as goal

pub returns-then-is_empty-clause-steps : goal.returns-then-is_empty-clause-steps
returns-then-is_empty-clause-steps c =
    let none = sym c.self.view_is ∙ pages_end c.self.inside.rest.now (search rules) in
    (none, none)

pub returns-clause-steps : goal.returns-clause-steps
returns-clause-steps c =
    sym c.self.view_is ∙ pages_turn c.self.inside.rest.now (search rules) c.after_page-self-inside.ensures c.first_page.ensures

pub returns-clause-goes : goal.returns-clause-goes
returns-clause-goes c =
    let fewer = ap length (returns-clause-steps c) in search rules
