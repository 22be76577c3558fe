-- What stands is copied back from the scratch buffer, what ended is appended; if there is no room, nothing is said of the buffers.
use mathlib.Core.Path.{refl, sym, ◌∙◌}
use native.Mathlib.Omega.{arith}
use borrow.Author.Rules.{rules}
use borrow.Author.Tests.{not-true, not-false}
use Rattle.audit.proofs.Keeping.{fits_so, kept_so, ended_room, room_for}
use Rattle.audit.proofs.following.changed.Goals as goal

pub returns-then-not-fits-clause-fits : goal.returns-then-not-fits-clause-fits
returns-then-not-fits-clause-fits c =
    let a = c.args in
    let done = c.track-tracked.ensures in
    sym (not-true _ c.if-not-fits.true-raw)
    ∙ fits_so a.q a.deed a.state a.before a.standing.now a.ended.now done.ends (ended_room a.ended.now c.requires.within_2 (search rules)) c.counted_from.ensures done.stands c.fits.ensures

pub returns : goal.returns
returns c =
    let a = c.args in
    let done = c.track-tracked.ensures in
    let there = not-false _ c.if-not-fits.false-raw in
    let room = room_for c.track-tracked.result.standing c.counted_from.result c.fits.ensures there in
    let was = ended_room a.ended.now c.requires.within_2 (search rules) in
    record {
      within = record { standing_fits = room.0; ended_fits = room.1 };
      fits = sym there ∙ fits_so a.q a.deed a.state a.before a.standing.now a.ended.now done.ends was c.counted_from.ensures done.stands c.fits.ensures;
      kept = kept_so a.q a.deed a.state a.before a.standing.now a.ended.now done.ends was c.counted_from.ensures done.stands (omega (arith, room.0, c.requires.room)) refl _ c.copy_from_slice.ensures.after (omega (arith, room.1));
    }
