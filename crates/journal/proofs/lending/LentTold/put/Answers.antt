-- Each case is the definition's own clause.
use Rattle.journal.proofs.Told.{check_length, refused_most}
use Rattle.wire.proofs.Writing.{then}
use native.Mathlib.Omega.{arith}
use Rattle.journal.proofs.lending.LentTold.put.Goals as goal

pub put_untouched-requires : goal.put_untouched-requires
put_untouched-requires c = omega (arith, c.requires.room, c.put_check-next.ensures.ended, check_length c.in-Check.k)

pub put_untouched-requires-in-Refused : goal.put_untouched-requires-in-Refused
put_untouched-requires-in-Refused c = omega (arith, c.requires.room, c.put_refused-next.ensures.ended, refused_most c.in-Refused.r)

pub returns-in-Check : goal.returns-in-Check
returns-in-Check c = rw c.in-Check.is (then c.put_check-next.ensures c.put_untouched.ensures)

pub returns-in-Refused : goal.returns-in-Refused
returns-in-Refused c = rw c.in-Refused.is (then c.put_refused-next.ensures c.put_untouched-in-Refused.ensures)
