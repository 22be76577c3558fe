use mathlib.Core.Path.{◌∙◌}
use Rattle.std.proofs.Common.{rules, arith}
use Rattle.paper.specs.Reports.{luacd_bytes}
use Rattle.paper.proofs.Lengths.{length_luacd}
use Rattle.report.proofs.Written.{fits_by}
use Rattle.report.proofs.granted.put_luacds.Goals as goal

pub put_each-requires : goal.put_each-requires
put_each-requires c =
    fits_by 20 (luacd_bytes c.args.luns.now) c.args.limit
    (omega (arith, c.in_use.ensures.few, c.requires))
    (λ buf to x m h. search rules)
    (λ buf left to next x m p. search rules)
    (λ x. omega (arith, length_luacd c.args.luns.now x))

pub returns : goal.returns
returns c =
    rw (c.in_use.ensures.in_use ∙ c.by_lun-sorted.ensures)
    at (c.put_each.ensures.wrote (luacd_bytes c.args.luns.now) c.args.limit (λ buf left to next x m p. search rules))
