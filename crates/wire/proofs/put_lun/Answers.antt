-- A LUN is written as the number that its eight bytes make.
use Rattle.wire.proofs.put_lun.Goals as goal

pub returns : goal.returns
returns c = rw (← c.lun_of.ensures) c.put_be64.ensures
