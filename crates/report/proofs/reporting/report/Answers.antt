-- What is written below the limit is what was asked for; header and pages are the report.
use mathlib.Core.Path.{◌≡◌}
use native.Mathlib.Omega.{arith}
use borrow.Author.Rules.{rules}
use lib.ListN.{length, take, length-append, length-take}
use Rattle.lists.proofs.Bytes.{bytes_length}
use Rattle.wire.proofs.Writing.{then}
use Rattle.paper.specs.Reports.{report_bytes}
use Rattle.report.proofs.PageSizes.{length_header}
use Rattle.report.proofs.Answering.{too_short, made, report_whole}
use Rattle.report.proofs.reporting.report.Goals as goal

pub returns-then-reply-limit : goal.returns-then-reply-limit
returns-then-reply-limit c =
    let z = c.args.c in
    let both = too_short z (take c.args.allocation (report_bytes z)) c.args.reply.now
    (omega (arith, length-take c.args.allocation (report_bytes z), length_header z, c.pages_size-follows.ensures.0, c.min-limit.ensures, c.if-reply-limit.true))
    c.handed_back.ensures in record { outcome = both.0; bytes = both.1 }

pub put_pages-requires : goal.put_pages-requires
put_pages-requires c = (search rules, omega (arith, simp (length-append, bytes_length) at c.put_header-at.ensures.ended))

pub returns : goal.returns
returns c =
    let z = c.args.c in
    let bytes = take c.args.allocation (report_bytes z) in
    let whole : c.min-limit.result ≡ length bytes = omega (arith, length-take c.args.allocation (report_bytes z), length_header z, c.pages_size-follows.ensures.0, c.min-limit.ensures) in
    let both = made z bytes c.args.reply.now
    (omega (arith, whole, c.if-reply-limit.false))
    (rw whole at c.handed_back-2.ensures)
    (report_whole z c.args.allocation (omega (arith, c.pages_size-follows.ensures.0)) c.min-limit.ensures (then c.put_header-at.ensures c.put_pages.ensures)) in record { outcome = both.0; bytes = both.1 }
