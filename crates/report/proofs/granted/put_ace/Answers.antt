-- The parts of the page, one after the other.
use Rattle.std.proofs.Common.{arith, ap, length, ◌+◌, ◌*◌}
use Rattle.lists.proofs.Bytes.{bytes_length}
use Rattle.wire.proofs.Writing.{then}
use Rattle.paper.proofs.Lengths.{length_ace, length_identifier}
use Rattle.report.proofs.PageSizes.{listed_size, everything_size}
use Rattle.report.proofs.PageLaws.{listed_page, everything_page}
use Rattle.report.proofs.granted.put_ace.Goals as goal

pub put_identifier-c-requires : goal.put_identifier-c-requires
put_identifier-c-requires c = omega (arith, c.requires, simp bytes_length at c.put_page_head-b.ensures.ended)

pub put_luacds-requires : goal.put_luacds-requires
put_luacds-requires c = omega (arith, c.requires, simp bytes_length at c.put_page_head-b.ensures.ended, simp length_identifier at c.put_identifier-c.ensures.ended)

pub put_identifier-requires : goal.put_identifier-requires
put_identifier-requires c = omega (arith, c.requires, simp bytes_length at c.put_page_head-d.ensures.ended)

pub returns-in-Listed : goal.returns-in-Listed
returns-in-Listed c =
    let a = c.args.a.now in
    let luns = c.args.luns.now in
    let used = c.in_use.ensures.in_use in
    let w = listed_page luns a c.in-Listed.is (ap (λ l. 28 + 20 * length l) used)
    (then c.put_page_head-b.ensures (then c.put_identifier-c.ensures c.put_luacds.ensures)) in
    record {
      fits = omega (arith, w.ended, length_ace luns a, ap length (listed_size a c.in-Listed.is), rw used at c.in_use.ensures.few);
      wrote = w;
    }

pub returns-in-Everything : goal.returns-in-Everything
returns-in-Everything c =
    let a = c.args.a.now in
    let luns = c.args.luns.now in
    let w = everything_page luns a c.in-Everything.is (then c.put_page_head-d.ensures c.put_identifier.ensures) in
    record {
      fits = omega (arith, w.ended, length_ace luns a, ap length (everything_size a c.in-Everything.is));
      wrote = w;
    }
