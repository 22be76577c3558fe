use Rattle.std.proofs.Common.{rules, get_or, ◌∙◌}
use Rattle.wire.proofs.Numbers.{made_each}
use Rattle.wire.proofs.bytes_at.Goals as goal

pub returns : goal.returns
returns g c = λ k l. made_each _ _ (λ i. get_or c.rest_of-rest.result.now i 0) (λ k y q h. search rules) _ _ c.from_fn.ensures.items.each k l ∙ rw c.rest_of-rest.ensures
