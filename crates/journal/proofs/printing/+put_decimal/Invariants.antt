-- The tenth of a number of two digits or more is less than it.
use Rattle.journal.proofs.printing.+put_decimal.Given as goal

abbrev pub decreases-put_decimal : goal.decreases-put_decimal
decreases-put_decimal l = l.n
