-- The identifier as it is kept, in hex.
use native.Mathlib.Omega.{arith}
use Rattle.paper.specs.Identifiers.{kept}
use Rattle.paper.proofs.Getters.{length_kept}
use Rattle.journal.proofs.Told.{hex_length}
use Rattle.acl.specs.State.{id_text}
use Rattle.acl.proofs.naming.put_id.Goals as goal

pub returns : goal.returns
unfolding id_text
returns c =
    let w = rw c.kept_id-bytes.ensures at c.put_hex.ensures in
    record { wrote = w; fits = omega (arith, w.ended, hex_length (kept c.args.kind c.args.id.now), length_kept c.args.kind c.args.id.now) }
