-- The ACEs' pages and the proxy page are all pages.
use Rattle.std.proofs.Common.{arith}
use Rattle.paper.specs.Tables.{units_of}
use Rattle.report.proofs.PageSizes.{all_pages}
use Rattle.report.proofs.sized.pages_size.Goals as goal

pub overflow_add-result : goal.overflow_add-result
overflow_add-result c =
    let luns = units_of c.args.c.now in
    omega (arith, (all_pages c.args.c.now c.requires (rw c.in_use.ensures.in_use at (c.aces_size.ensures luns)) (rw c.in_use-2.ensures.in_use at (c.proxy_size.ensures luns))).1)

pub returns : goal.returns
returns c =
    let luns = units_of c.args.c.now in
    all_pages c.args.c.now c.requires (rw c.in_use.ensures.in_use at (c.aces_size.ensures luns)) (rw c.in_use-2.ensures.in_use at (c.proxy_size.ensures luns))
