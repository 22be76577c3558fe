-- An empty line has no CR; of any other the last byte decides.
use native.Mathlib.Omega.{arith}
use Rattle.journal.proofs.Exits.{cr_empty, cr_dropped, cr_other}
use Rattle.journal.proofs.reading.without_cr.Goals as goal

pub returns-in-13 : goal.returns-in-13
returns-in-13 c = cr_dropped _ (λ e. omega arith) (omega arith)

pub returns-in_default : goal.returns-in_default
returns-in_default c = cr_empty _ (omega arith)

pub returns-in_default-2 : goal.returns-in_default-2
returns-in_default-2 c = cr_other _ (λ e. omega arith) (λ e. omega arith)
