-- A line that did something changes what is kept; another leaves it.
use mathlib.Core.Path.{sym}
use Rattle.audit.specs.Following.{followed}
use Rattle.audit.proofs.Keeping.{within_fits}
use Rattle.audit.proofs.following.follow.Goals as goal

pub returns-in-Some-clause-fits : goal.returns-in-Some-clause-fits
unfolding followed
returns-in-Some-clause-fits c = rw (← c.in-Some.ensures) c.changed.ensures.fits

pub returns-in-Some-clause-kept : goal.returns-in-Some-clause-kept
unfolding followed
returns-in-Some-clause-kept c = rw (← c.in-Some.ensures) c.changed.ensures.kept

pub returns-in-None-clause-fits : goal.returns-in-None-clause-fits
unfolding followed
returns-in-None-clause-fits c = rw (← c.in-None.ensures) (sym (within_fits c.requires.within_2 _ _))

pub returns-in-None-clause-kept : goal.returns-in-None-clause-kept
unfolding followed
returns-in-None-clause-kept c = rw (← c.in-None.ensures)
