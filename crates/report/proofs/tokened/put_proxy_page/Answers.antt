-- Without tokens nothing is written; with tokens the head and then the tokens.
use Rattle.std.proofs.Common.{arith, ap, sym, length}
use mathlib.Core.Path.{◌∙◌}
use Rattle.lists.proofs.Bytes.{bytes_length}
use Rattle.wire.proofs.Writing.{then}
use Rattle.report.proofs.PageLaws.{no_proxy_page, some_proxy_page}
use Rattle.report.proofs.tokened.put_proxy_page.Goals as goal

pub returns-then-n-eq0 : goal.returns-then-n-eq0
returns-then-n-eq0 c = no_proxy_page c.args.luns.now _ _ _ _ (ap length (sym c.in_use-n.ensures.in_use) ∙ c.if-n-eq0.true)

pub put_tokens-requires : goal.put_tokens-requires
put_tokens-requires c = omega (arith, c.requires, simp bytes_length at c.put_page_head-a.ensures.ended)

pub returns : goal.returns
returns c =
    let used = c.in_use-n.ensures.in_use in
    some_proxy_page c.args.luns.now _ (omega (arith, ap length used, c.if-n-eq0.false))
    (then (rw used at c.put_page_head-a.ensures) c.put_tokens.ensures)
