-- The grounds of an audit stand in the buffers that are lent for them.
use Rattle.std.specs.Prelude.{◌≤◌}
use Rattle.audit.specs.declared.ledger.Grounds.{Grounds}

pub record Within (g : Grounds) : Type 0 where
  pub standing_fits : g.standing ≤ 65536
  pub ended_fits : g.ended ≤ 393216
