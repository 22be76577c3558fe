-- A request that passes issues the token of the unit that its LUN opens.
use Rattle.std.proofs.Common.{sym, ◌∙◌}
use Rattle.paper.specs.Grounds.{is_ta}
use Rattle.paper.specs.Rows.{rows_of, row_with}
use Rattle.paper.specs.Applied.{unit_in}
use Rattle.paper.specs.Commands.{request_tests}
use Rattle.commands.proofs.Requesting.{passed, outcome_is, reply_is}
use Rattle.commands.proofs.tokening.request_token.Goals as goal

pub returns-in-Ok : goal.returns-in-Ok
returns-in-Ok c =
    let a = c.args in
    let through = passed (request_tests a.c a.i a.l a.random) (unit_in (row_with is_ta a.l (rows_of a.c a.i))) (sym c.request_unit.ensures ∙ c.in-Ok.is) in
    record { value = c.issue.ensures.value ∙ outcome_is a.c a.i a.l a.random through.0 through.1 c.lun_head.ensures _; reply_after = c.issue.ensures.reply_after ∙ reply_is a.c a.i a.l a.random through.0 through.1 c.lun_head.ensures a.reply.now }
