-- What makes a page no grant.
use Prim.Native.Nat.{ℕ}
use mathlib.Core.Path.{◌≡◌}
use mathlib.Core.List.{List}
use mathlib.Core.Bool.{false}
use Rattle.lists.specs.Lists.{any}
use Rattle.lists.proofs.Members.{none_any}
use Rattle.paper.specs.Pages.{is_grant, same_grant}

-- a page that is no grant page is no second one
pub no_grant : (page : List ℕ) (pages : List (List ℕ)) → is_grant page ≡ false → any (same_grant page) pages ≡ false
unfolding same_grant
no_grant page pages e = none_any (same_grant page) pages (λ q h. rw e)
