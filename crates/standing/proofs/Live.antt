-- A token is live where one of its number is.
use Rattle.std.proofs.Common.{ℕ, ◌≡◌, Bool, List, sym}
use mathlib.Core.Path.{◌∙◌}
use Rattle.lists.specs.Lists.{any, is_some}
use Rattle.lists.proofs.Members.{find_any}
use Rattle.paper.specs.Rows.{has_number, token_for}
use Rattle.paper.specs.declared.state.Token.{Token}

pub live_by_lem : (ts : List Token) (n : ℕ) {b : Bool} → any (has_number n) ts ≡ b → b ≡ is_some (token_for ts n)
unfolding token_for
live_by_lem ts n h = sym (find_any (has_number n) ts ∙ h)
