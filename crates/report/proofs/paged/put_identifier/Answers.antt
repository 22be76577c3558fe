-- Four writers, one after the other; the identifier is written as it is kept.
use mathlib.Core.Path.{ap, ◌∙◌}
use native.Mathlib.Omega.{arith}
use lib.ListN.{length}
use Rattle.lists.proofs.Bytes.{bytes_length}
use Rattle.wire.proofs.Writing.{then}
use Rattle.paper.specs.Reports.{identifier_bytes}
use Rattle.paper.proofs.Getters.{length_kept}
use Rattle.report.proofs.paged.put_identifier.Goals as goal

pub put_bytes-requires : goal.put_bytes-requires
unfolding identifier_bytes
put_bytes-requires c =
    let many = ap length c.kept_id-bytes.ensures ∙ length_kept c.args.a.now.kind c.args.a.now.id in
    omega (arith, many, simp bytes_length at c.put_be16-d.ensures.ended, c.put-c.ensures.ended, c.put-b.ensures.ended)

pub returns : goal.returns
unfolding identifier_bytes
returns c =
    then c.put-b.ensures
    (then (rw c.from.ensures at c.put-c.ensures)
    (then c.put_be16-d.ensures (rw c.kept_id-bytes.ensures at c.put_bytes.ensures)))
