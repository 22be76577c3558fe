use Rattle.std.proofs.Common.{arith, ◌+◌, add-one, drop-cons, sym}
use mathlib.Core.Path.{◌∙◌, ◌≡◌}
use lib.ListN.{drop, get_or}
use Rattle.std.proofs.lemmas.List.{drop_all}
use mathlib.Core.List.{◌∷◌}
use Rattle.lists.proofs.Parts.{kept_none}
use Rattle.paper.specs.Tables.{no_proxy}
use Rattle.rows.proofs.Proxies.{anothers, own_dead, own_live}
use Rattle.rows.proofs.Appending.{append_end}
use Rattle.rows.proofs.building.with_proxies.Goals as goal
use Rattle.rows.proofs.building.with_proxies.Goals.{then-p-i+in-Some, then-p-i+in_default, else-p-i}

pub loop-p-preserved : goal.loop-p-preserved
loop-p-preserved c =
    let e : drop c.loop-p.p-index c.args.proxies.now ≡ get_or c.args.proxies.now c.loop-p.p-index no_proxy ∷ drop (c.loop-p.p-index + 1) c.args.proxies.now = rw (drop-cons _ _ no_proxy c.loop-p-test.true, add-one) in
    elim c.if-p-i.branch [
      | then-p-i+in-Some w ↦ rw (w.rows-is, w.push.ensures) (own_live _ _ c.loop-p.invariant e w.if-p-i.true (sym w.token_for.ensures ∙ w.in-Some.is) w.proxy_row.ensures)
      | then-p-i+in_default w ↦ rw w.rows-is (own_dead _ _ c.loop-p.invariant e w.if-p-i.true (sym w.token_for.ensures ∙ w.in_default.is))
      | else-p-i w ↦ rw w.rows-is (anothers _ _ c.loop-p.invariant e w.if-p-i.false)
    ]

pub returns : goal.returns
returns c = append_end c.loop-p.invariant (rw (drop_all _ _ c.loop-p-test.false, kept_none)) (omega (arith, c.loop-p.auto.p-index-end, c.requires.1))
