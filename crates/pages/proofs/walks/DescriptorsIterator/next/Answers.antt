-- Less than 20 bytes are left and no descriptor; or the first comes, and those of the other bytes are left.
use Rattle.std.proofs.Common.{rules, length, ap, sym, ◌∙◌}
use Rattle.pages.proofs.Descriptors.{descriptors_none, descriptors_turn}
use Rattle.pages.proofs.walks.DescriptorsIterator.next.Goals as goal

pub returns-in_err-first-clause-steps : goal.returns-in_err-first-clause-steps
returns-in_err-first-clause-steps c =
    let none = sym c.self.view_is ∙ descriptors_none c.self.inside.run.now (search rules) in
    rw c.from_residual.ensures (none, none)

pub returns-clause-steps : goal.returns-clause-steps
returns-clause-steps c =
    sym c.self.view_is ∙ descriptors_turn c.self.inside.run.now (search rules) c.in_ok-first.ensures.cases.0 c.in_ok-first.ensures.cases.1 c.descriptor.ensures

pub returns-clause-goes : goal.returns-clause-goes
returns-clause-goes c =
    let fewer = ap length (returns-clause-steps c) in search rules
