-- What is left of the chunk is handed on, and what was read of it is less by so much.
use Rattle.std.proofs.Common.{◌≡◌, length, arith, rules}
use lib.ListN.{length-take, length-drop}
use borrow.Author.Tests.{tests}
use Rattle.oberkosz.proofs.Feeding.{reached_next, reached_last}
use Rattle.oberkosz.proofs.input.fed.Goals as goal

pub loop-rest-preserved : goal.loop-rest-preserved
loop-rest-preserved g c =
    let v = c.loop-rest.invariant in
    let seen = c.one_line-part.ensures.sound in
    (seen.0, simp (length-take, length-drop) (omega (arith, v.1, seen.1, seen.2, seen.3)), λ x a. let r = v.2 x a in reached_next c.one_line-part.result.eaten r (c.one_line-part.ensures.fed r.here r.at))

pub returns-clause-fed : goal.returns-clause-fed
returns-clause-fed g c =
    let none : length c.loop-rest.rest.now ≡ 0 = search (rules, tests) in
    λ x a going. reached_last none (c.loop-rest.invariant.2 x a)
