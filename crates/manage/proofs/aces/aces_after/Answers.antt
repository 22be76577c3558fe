-- What is left of the ACEs has blanks behind it.
use Rattle.manage.proofs.Fits.{kept_uncrowded}
use Rattle.manage.proofs.aces.aces_after.Goals as goal

pub with_new-requires : goal.with_new-requires
with_new-requires c = (kept_uncrowded _ c.requires.0 _ c.unnamed_aces.ensures, c.requires.1)
