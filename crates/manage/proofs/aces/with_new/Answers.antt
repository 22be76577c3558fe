-- An ACE has no room, or all pages have put theirs.
use Rattle.std.proofs.Common.{ap, sym}
use Rattle.std.specs.Prelude.{Ok, Err}
use Rattle.std.proofs.lemmas.Result.{err_from_is_err_and}
use mathlib.Core.Path.{◌∙◌}
use Rattle.manage.proofs.Put.{put_33rd, put_full, put_end}
use Rattle.manage.proofs.aces.with_new.Goals as goal

pub returns-in_err-ace : goal.returns-in_err-ace
returns-in_err-ace c =
    let p = err_from_is_err_and c.from_residual.result c.from_residual.ensures.1 in
    rw (p.1, p.2) (sym (put_full c.loop-page.invariant c.in-Some.ensures.steps (sym c.in_err-ace.ensures)))

pub returns-in_err-push : goal.returns-in_err-push
returns-in_err-push c =
    let p = err_from_is_err_and c.from_residual-in_err-push.result c.from_residual-in_err-push.ensures.1 in
    rw (p.1, p.2)
    (ap Err c.in_err-push.ensures.condition ∙ sym (put_33rd c.loop-page.invariant c.in-Some.ensures.steps (sym c.in_ok-ace.ensures ∙ ap Ok c.in-Some-2.is) c.in_err-push.ensures.full))

pub returns : goal.returns
returns c = put_end c.loop-page.invariant c.in-None.ensures.steps.0
