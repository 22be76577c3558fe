-- The first word is compared with the five in the order of the definition, and what is behind it is read.
use mathlib.Core.Path.{refl, ap, ◌∙◌}
use Rattle.journal.specs.Statements.{read_setup, read_command, read_link, read_route, read_reach, setup_word, command_word, link_word, route_word, reach_word}
use Rattle.journal.proofs.Lengths.{rest_short}
use Rattle.journal.proofs.Exits.{named, handed, read_plainly, ok_so, err_so, statement_setup, statement_command, statement_link, statement_route, statement_reach, statement_none}
use Rattle.journal.proofs.reading.read_statement.Goals as goal

pub read_setup-requires : goal.read_setup-requires
read_setup-requires c =
    (rest_short c.args.s.now c.next.ensures.rest c.requires.0, c.requires.1, c.requires.2)

pub returns-then-is_word-clause-ok : goal.returns-then-is_word-clause-ok
returns-then-is_word-clause-ok c =
    ok_so c.read_setup.result c.read_setup.new.first c.read_setup.new.second (ap read_setup c.next.ensures.rest ∙ statement_setup c.args.s.now (named setup_word c.next.ensures.word c.is_word.ensures c.if-is_word.true)) c.read_setup.ensures.ok

pub returns-then-is_word-clause-err : goal.returns-then-is_word-clause-err
returns-then-is_word-clause-err c =
    err_so c.read_setup.result (ap read_setup c.next.ensures.rest ∙ statement_setup c.args.s.now (named setup_word c.next.ensures.word c.is_word.ensures c.if-is_word.true)) c.read_setup.ensures.err

pub read_command-requires : goal.read_command-requires
read_command-requires c =
    (rest_short c.args.s.now c.next.ensures.rest c.requires.0, c.requires.1, c.requires.2)

pub returns-then-is_word-2-clause-ok : goal.returns-then-is_word-2-clause-ok
returns-then-is_word-2-clause-ok c =
    ok_so c.read_command.result c.read_command.new.first c.read_command.new.second (ap read_command c.next.ensures.rest ∙ statement_command c.args.s.now (named setup_word c.next.ensures.word c.is_word.ensures c.if-is_word.false) (named command_word c.next.ensures.word c.is_word-else-is_word.ensures c.if-is_word-2.true)) c.read_command.ensures.ok

pub returns-then-is_word-2-clause-err : goal.returns-then-is_word-2-clause-err
returns-then-is_word-2-clause-err c =
    err_so c.read_command.result (ap read_command c.next.ensures.rest ∙ statement_command c.args.s.now (named setup_word c.next.ensures.word c.is_word.ensures c.if-is_word.false) (named command_word c.next.ensures.word c.is_word-else-is_word.ensures c.if-is_word-2.true)) c.read_command.ensures.err

pub returns-in_err-read_link-clause-err : goal.returns-in_err-read_link-clause-err
returns-in_err-read_link-clause-err c =
    handed c.from_residual.result c.from_residual.ensures.1 refl (c.in_err-read_link.ensures.err ∙ (ap read_link c.next.ensures.rest ∙ statement_link c.args.s.now (named setup_word c.next.ensures.word c.is_word.ensures c.if-is_word.false) (named command_word c.next.ensures.word c.is_word-else-is_word.ensures c.if-is_word-2.false) (named link_word c.next.ensures.word c.is_word-else-is_word-2.ensures c.if-is_word-3.true)))

pub returns-in_ok-read_link-clause-ok : goal.returns-in_ok-read_link-clause-ok
returns-in_ok-read_link-clause-ok c =
    read_plainly c.from.ensures (λ a b. c.in_ok-read_link.ensures.ok a b ∙ (ap read_link c.next.ensures.rest ∙ statement_link c.args.s.now (named setup_word c.next.ensures.word c.is_word.ensures c.if-is_word.false) (named command_word c.next.ensures.word c.is_word-else-is_word.ensures c.if-is_word-2.false) (named link_word c.next.ensures.word c.is_word-else-is_word-2.ensures c.if-is_word-3.true)))

pub returns-in_err-read_route-clause-err : goal.returns-in_err-read_route-clause-err
returns-in_err-read_route-clause-err c =
    handed c.from_residual-in_err-read_route.result c.from_residual-in_err-read_route.ensures.1 refl (c.in_err-read_route.ensures.err ∙ (ap read_route c.next.ensures.rest ∙ statement_route c.args.s.now (named setup_word c.next.ensures.word c.is_word.ensures c.if-is_word.false) (named command_word c.next.ensures.word c.is_word-else-is_word.ensures c.if-is_word-2.false) (named link_word c.next.ensures.word c.is_word-else-is_word-2.ensures c.if-is_word-3.false) (named route_word c.next.ensures.word c.is_word-else-is_word-3.ensures c.if-is_word-4.true)))

pub returns-in_ok-read_route-clause-ok : goal.returns-in_ok-read_route-clause-ok
returns-in_ok-read_route-clause-ok c =
    read_plainly c.from-then-is_word-4.ensures (λ a b. c.in_ok-read_route.ensures.ok a b ∙ (ap read_route c.next.ensures.rest ∙ statement_route c.args.s.now (named setup_word c.next.ensures.word c.is_word.ensures c.if-is_word.false) (named command_word c.next.ensures.word c.is_word-else-is_word.ensures c.if-is_word-2.false) (named link_word c.next.ensures.word c.is_word-else-is_word-2.ensures c.if-is_word-3.false) (named route_word c.next.ensures.word c.is_word-else-is_word-3.ensures c.if-is_word-4.true)))

pub returns-in_err-read_reach-clause-err : goal.returns-in_err-read_reach-clause-err
returns-in_err-read_reach-clause-err c =
    handed c.from_residual-in_err-read_reach.result c.from_residual-in_err-read_reach.ensures.1 refl (c.in_err-read_reach.ensures.err ∙ (ap read_reach c.next.ensures.rest ∙ statement_reach c.args.s.now (named setup_word c.next.ensures.word c.is_word.ensures c.if-is_word.false) (named command_word c.next.ensures.word c.is_word-else-is_word.ensures c.if-is_word-2.false) (named link_word c.next.ensures.word c.is_word-else-is_word-2.ensures c.if-is_word-3.false) (named route_word c.next.ensures.word c.is_word-else-is_word-3.ensures c.if-is_word-4.false) (named reach_word c.next.ensures.word c.is_word-else-is_word-4.ensures c.if-is_word-5.true)))

pub returns-in_ok-read_reach-clause-ok : goal.returns-in_ok-read_reach-clause-ok
returns-in_ok-read_reach-clause-ok c =
    read_plainly c.from-then-is_word-5.ensures (λ a b. c.in_ok-read_reach.ensures.ok a b ∙ (ap read_reach c.next.ensures.rest ∙ statement_reach c.args.s.now (named setup_word c.next.ensures.word c.is_word.ensures c.if-is_word.false) (named command_word c.next.ensures.word c.is_word-else-is_word.ensures c.if-is_word-2.false) (named link_word c.next.ensures.word c.is_word-else-is_word-2.ensures c.if-is_word-3.false) (named route_word c.next.ensures.word c.is_word-else-is_word-3.ensures c.if-is_word-4.false) (named reach_word c.next.ensures.word c.is_word-else-is_word-4.ensures c.if-is_word-5.true)))

pub returns-else-is_word-5-clause-err : goal.returns-else-is_word-5-clause-err
returns-else-is_word-5-clause-err c =
    statement_none c.args.s.now (named setup_word c.next.ensures.word c.is_word.ensures c.if-is_word.false) (named command_word c.next.ensures.word c.is_word-else-is_word.ensures c.if-is_word-2.false) (named link_word c.next.ensures.word c.is_word-else-is_word-2.ensures c.if-is_word-3.false) (named route_word c.next.ensures.word c.is_word-else-is_word-3.ensures c.if-is_word-4.false) (named reach_word c.next.ensures.word c.is_word-else-is_word-4.ensures c.if-is_word-5.false)
