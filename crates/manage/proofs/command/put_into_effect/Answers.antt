-- Both phases are asked of the end state, which is the one that the effects make.
use Rattle.std.proofs.Common.{ap, sym, arith}
use Rattle.std.specs.Prelude.{Ok, Err}
use Rattle.std.proofs.lemmas.Result.{err_from_is_err_and}
use mathlib.Core.Path.{◌∙◌}
use Rattle.paper.specs.Pages.{ace_pages}
use Rattle.paper.specs.Rows.{some_clash}
use Rattle.manage.specs.EndState.{revoked_by, end_with}
use Rattle.manage.proofs.Fits.{sized, no_fit, fit}
use Rattle.manage.proofs.Phases.{count_granted, count_revoked, counts, fails_5, fails_6, all_pass}
use Rattle.manage.proofs.command.put_into_effect.Goals as goal

pub aces_after-requires : goal.aces_after-requires
aces_after-requires c = (sized (counts _ _ c.requires), c.in_use.ensures.few)

pub returns-in_err-acl : goal.returns-in_err-acl
unfolding ace_pages
returns-in_err-acl c =
    let passed = c.requires in
    let p = err_from_is_err_and c.from_residual.result c.from_residual.ensures.1 in
    let none = no_fit _ (sized (counts _ _ passed)) _ _ (sym (rw (c.in_use.ensures.in_use, c.pages_in.ensures) at c.in_err-acl.ensures)) in
    rw (p.1, p.2) (ap Err none.1 ∙ fails_5 _ _ passed none.0)

pub granted_with-granted-requires : goal.granted_with-granted-requires
granted_with-granted-requires c = (counts _ _ c.requires).few_initiators

pub some_clash-requires : goal.some_clash-requires
some_clash-requires c =
    let few = counts _ _ c.requires in
    let granted = ap (λ d. d.initiators.count) c.granted_with-granted.ensures ∙ count_granted _ _ _ in
    let end = ap (λ d. d.initiators.count) c.revoked_by-end.ensures ∙ count_revoked _ _ in
    omega (arith, granted, end, few.few_initiators)

pub returns-then-some_clash : goal.returns-then-some_clash
unfolding ace_pages
returns-then-some_clash c =
    let passed = c.requires in
    let fits = fit _ (sized (counts _ _ passed)) _ _ (sym (rw (c.in_use.ensures.in_use, c.pages_in.ensures) at c.in_ok-acl.ensures)) in
    let is = c.revoked_by-end.ensures ∙ ap (revoked_by _) c.granted_with-granted.ensures ∙ ap (end_with _ _) fits.is in
    fails_6 _ _ passed fits.fits (ap some_clash (sym is) ∙ sym c.some_clash.ensures ∙ c.if-some_clash.true)

pub returns : goal.returns
unfolding ace_pages
returns c =
    let passed = c.requires in
    let fits = fit _ (sized (counts _ _ passed)) _ _ (sym (rw (c.in_use.ensures.in_use, c.pages_in.ensures) at c.in_ok-acl.ensures)) in
    let is = c.revoked_by-end.ensures ∙ ap (revoked_by _) c.granted_with-granted.ensures ∙ ap (end_with _ _) fits.is in
    ap Ok is ∙ all_pass _ _ passed fits.fits (ap some_clash (sym is) ∙ sym c.some_clash.ensures ∙ c.if-some_clash.false)
