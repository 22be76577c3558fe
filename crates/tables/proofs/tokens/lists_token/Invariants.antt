-- The tokens of the page that are left to read decide.
use Rattle.std.proofs.Common.{◌≡◌, ◌+◌, ◌-◌, ◌*◌}
use lib.Dec.{eqb}
use Rattle.lists.specs.Lists.{any}
use Rattle.paper.specs.Pages.{tokens_in}
use Rattle.tables.proofs.Listing.{tokens_from}
use Rattle.tables.proofs.tokens.lists_token.Given as goal

abbrev pub invariant-loop-k : goal.invariant-loop-k
invariant-loop-k l = any (λ m. eqb m l.n) (tokens_in l.page) ≡ any (λ m. eqb m l.n) (tokens_from l.page (4 + 8 * l.k) (l.count - l.k))
