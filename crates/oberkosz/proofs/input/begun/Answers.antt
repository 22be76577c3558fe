-- The coordinator is that of an empty setup, and nothing was read or kept.
use Rattle.std.proofs.Common.{ap, refl, ◌∙◌}
use Rattle.oberkosz.proofs.Feeding.{begun_so}
use Rattle.oberkosz.proofs.input.begun.Goals as goal

pub returns-clause-at : goal.returns-clause-at
returns-clause-at c =
    λ task line standing ended.
    record {
      state = ap (λ s. s.state) c.setup.ensures ∙ begun_so;
      number = refl;
      kept = refl;
      grounds = λ audit going. refl;
    }
