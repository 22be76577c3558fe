-- The reach list is read back from the buffer, and what stands and what ends are made of its rows.
use mathlib.Core.Path.{ap, ap₂, ◌∙◌}
use Prim.Native.Nat.{ℕ}
use mathlib.Core.List.{List}
use native.Mathlib.Omega.{arith}
use borrow.Author.Rules.{rules}
use lib.ListN.{length}
use Rattle.journal.proofs.Lent.{reach_fits}
use Rattle.audit.specs.Ledger.{deed_bytes, stands_after, ends_after, forgotten}
use Rattle.audit.proofs.Writers.{wrote_as}
use Rattle.audit.proofs.Grounds.{reach_rows_lem, reach_buffer, rows_few}
use Rattle.audit.proofs.ledger.track.Goals as goal

pub rows_in-rows-requires : goal.rows_in-rows-requires
rows_in-rows-requires c = omega (arith, reach_fits c.args.c _ c.reach-outcome.ensures.outcome, c.reach-outcome.auto.reply)

pub put_stands-requires : goal.put_stands-requires
put_stands-requires c =
    let a = c.args in
    let listed = c.rows_in-rows.ensures ∙ reach_rows_lem a.c a.reply.now _ (search rules) c.reach-outcome.ensures.outcome c.reach-outcome.ensures.bytes in
    omega (arith, ap length listed, rows_few a.c)

pub returns : goal.returns
returns c =
    let a = c.args in
    let deed = deed_bytes a.deed in
    let listed = c.rows_in-rows.ensures ∙ reach_rows_lem a.c a.reply.now _ (search rules) c.reach-outcome.ensures.outcome c.reach-outcome.ensures.bytes in
    record { stands = wrote_as (ap₂ (λ (s r : List ℕ). stands_after a.q.unit s r deed) c.unless_setup-before.ensures listed) c.put_stands.ensures; ends = wrote_as (ap (λ (r : List ℕ). ends_after a.standing.now r deed a.q.to) (c.unless_setup-after.ensures ∙ ap (forgotten a.deed.what) listed)) c.put_ends.ensures; reply = reach_buffer a.c a.reply.now _ (search rules) c.reach-outcome.ensures.outcome c.reach-outcome.ensures.bytes }
