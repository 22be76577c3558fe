-- The three tests are the two ways of clashing, by cases on the LUN and the unit.
use mathlib.Core.Path.{sym, ◌∙◌}
use Rattle.rows.proofs.Clashing.{one_lun, two_units, one_unit}
use Rattle.rows.proofs.clashes.clashing_rows.Goals as goal

pub returns-then-a-b : goal.returns-then-a-b
returns-then-a-b c = sym (one_lun _ _ c.if-a-b.true)

pub returns-then-a-b-2 : goal.returns-then-a-b-2
returns-then-a-b-2 c = sym (two_units _ _ c.if-a-b.false c.if-a-b-2.true)

pub returns-then-is_taw : goal.returns-then-is_taw
returns-then-is_taw c =
    c.is_taw-then-is_taw.ensures
    ∙ sym (one_unit _ _ c.if-a-b.false c.if-a-b-2.false ∙ rw (sym c.is_taw.ensures ∙ c.if-is_taw.true))

pub returns-else-is_taw : goal.returns-else-is_taw
returns-else-is_taw c = c.if-is_taw.false ∙ sym (one_unit _ _ c.if-a-b.false c.if-a-b-2.false ∙ rw (sym c.is_taw.ensures ∙ c.if-is_taw.false))
