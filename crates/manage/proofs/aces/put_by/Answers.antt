-- The page code picks what is put.
use Rattle.std.proofs.Common.{rules, sym}
use Rattle.std.proofs.lemmas.Result.{err_from_is_err_and}
use mathlib.Core.Path.{◌∙◌}
use Rattle.manage.proofs.Put.{put_00, put_01, put_other}
use Rattle.manage.proofs.aces.put_by.Goals as goal

pub returns-in_err-listed-in-0 : goal.returns-in_err-listed-in-0
returns-in_err-listed-in-0 c =
    let p = err_from_is_err_and c.from_residual.result c.from_residual.ensures.1 in
    rw (p.1, p.2, put_00 _ _ (sym c.page_code.ensures ∙ c.in-0.is), ← c.descriptors.ensures, ← c.in_err-listed-in-0.ensures)

pub returns-in_ok-listed-in-0 : goal.returns-in_ok-listed-in-0
returns-in_ok-listed-in-0 c =
    rw (c.put_listed.ensures, c.in_use.ensures.in_use, c.kept_id-id.ensures, c.page_id.ensures, c.page_type-k.ensures, put_00 _ _ (sym c.page_code.ensures ∙ c.in-0.is), ← c.descriptors.ensures, ← c.in_ok-listed-in-0.ensures)

pub returns-in-1 : goal.returns-in-1
returns-in-1 c =
    rw (c.all_units_ace.ensures, c.kept_id-id.ensures, c.page_id.ensures, c.page_type-k.ensures)
    (put_01 _ _ (sym c.page_code.ensures ∙ c.in-1.is))

pub returns-in_default : goal.returns-in_default
returns-in_default c = search (rules, put_other)
