-- The ACEs' pages and then the proxy page.
use Rattle.wire.proofs.Writing.{then}
use Rattle.paper.specs.Reports.{report_pages}
use Rattle.report.proofs.reporting.put_pages.Goals as goal

pub returns : goal.returns
unfolding report_pages
returns c =
    rw c.in_use-luns.ensures.in_use
    at (then c.put_aces-a.ensures.wrote c.put_proxy_page.ensures)
