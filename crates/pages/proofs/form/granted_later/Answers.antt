-- A page that is no grant page has no second.
use Rattle.std.proofs.Common.{sym, ◌∙◌}
use Rattle.pages.proofs.Forms.{no_grant}
use Rattle.pages.proofs.form.granted_later.Goals as goal

pub returns-else-is_grant : goal.returns-else-is_grant
returns-else-is_grant c = c.if-is_grant.false ∙ sym (no_grant _ _ (sym c.is_grant.ensures ∙ c.if-is_grant.false))
