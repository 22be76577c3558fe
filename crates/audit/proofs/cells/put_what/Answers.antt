-- Each statement has its own name, and what is none has none.
use borrow.Author.Tests.{ne_eqb}
use Rattle.wire.proofs.Writing.{wrote_none}
use Rattle.audit.specs.Cells.{what_text}
use Rattle.audit.proofs.cells.put_what.Goals as goal

pub returns-in_default : goal.returns-in_default
unfolding what_text
returns-in_default c =
    let r = c.in_default.in_default-own.rest in
    rw (ne_eqb _ 0x00 r.0.0.0.0.0.0.0.0.0.1, ne_eqb _ 0x01 r.0.0.0.0.0.0.0.0.1, ne_eqb _ 0x02 r.0.0.0.0.0.0.0.1, ne_eqb _ 0x03 r.0.0.0.0.0.0.1, ne_eqb _ 0x07 r.0.0.0.0.0.1, ne_eqb _ 0x08 r.0.0.0.0.1, ne_eqb _ 0x09 r.0.0.0.1, ne_eqb _ 0x0A r.0.0.1, ne_eqb _ 0xFE r.0.1, ne_eqb _ 0xFF r.1) (wrote_none _ _ _)
