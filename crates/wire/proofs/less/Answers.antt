use Rattle.lists.proofs.Bytes.{same_none, same_more, same_not_less, less_at}
use native.Mathlib.Omega.{arith}
use mathlib.Core.Path.{◌≡◌, sym, ◌∙◌}
use Rattle.wire.proofs.less.Goals as goal

pub loop-i-init : goal.loop-i-init
loop-i-init c = same_none _ _

pub returns-then-x-y : goal.returns-then-x-y
returns-then-x-y c = rw (c.byte-x.ensures, c.byte-y.ensures) (sym (less_at _ _ c.loop-i.i _ c.loop-i.invariant (λ e. c.if-x-y.true (c.byte-x.ensures ∙ e ∙ sym c.byte-y.ensures)) c.loop-i-test.true))

pub loop-i-preserved : goal.loop-i-preserved
loop-i-preserved c = same_more _ _ _ c.loop-i.invariant (sym c.byte-x.ensures ∙ c.if-x-y.false ∙ c.byte-y.ensures)

pub returns : goal.returns
returns c = let e : c.loop-i.i ≡ c.args.n = omega arith in sym (same_not_less _ _ _ (rw e at c.loop-i.invariant))
