use Rattle.rows.proofs.building.with_identifier.Goals as goal

pub returns : goal.returns
returns c = rw (← c.in_use-2.ensures.in_use, ← c.in_use.ensures.in_use, ← c.ace_for-ace.ensures) c.with_held.ensures
