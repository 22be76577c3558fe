-- The bytes before the end of the line are copied, as far as the line has room.
use Rattle.std.proofs.Common.{◌∙◌, arith}
use Rattle.journal.proofs.Taking.{filled, taken_place, taken_whole, taken_read}
use Rattle.journal.proofs.lines.take_in.Goals as goal

pub returns : goal.returns
returns c =
    let chunk = c.args.chunk.now in
    let end = c.end_in-end.result in
    let at = c.end_in-end.ensures in
    let place = taken_place chunk end at c.unwrap_or.ensures in
    record {
      whole = c.is_some-ended.ensures ∙ taken_whole chunk end at;
      read = taken_read chunk end at c.unwrap_or.ensures c.is_some-ended.ensures;
      kept = filled 262145 c.args.used c.min-kept.result _ _ c.args.line.now chunk _ _ (omega (arith, c.requires)) c.requires.1 c.min-kept.ensures c.copy_from_slice.ensures.after place;
      small = omega (arith, c.requires, c.min-kept.ensures);
    }
