use Rattle.std.proofs.Common.{◌≡◌, ◌+◌, sym, get_or, drop, drop-cons, add-one}
use mathlib.Core.Path.{◌∙◌}
use mathlib.Core.List.{◌∷◌}
use Rattle.std.proofs.lemmas.List.{drop_all}
use Rattle.lists.specs.Lists.{pairs}
use Rattle.lists.proofs.Passing.{pairs_found, pairs_more, left_found, left_none}
use Rattle.paper.specs.Rows.{clashing}
use Rattle.rows.specs.Table.{no_row}
use Rattle.rows.proofs.clashes.clash_in.Goals as goal

pub search-preserved : goal.search-preserved
search-preserved c =
    let e : drop c.search.i c.args.rows.now ≡ get_or c.args.rows.now c.search.i no_row ∷ c.behind-later.result.now = rw (drop-cons _ _ no_row c.search-test.true, c.behind-later.ensures, add-one) in
    (c.search.invariant.0 ∙ (pairs_more clashing e (left_none _ _ c.loop-b.invariant.0 c.loop-b-test.false) ∙ rw c.behind-later.ensures), c.loop-b.invariant.1)

pub returns-after-search : goal.returns-after-search
unfolding pairs
returns-after-search c = c.search.invariant.1 ∙ sym (c.search.invariant.0 ∙ rw (drop_all _ _ c.search-test.false))

pub returns-then-clashing_rows : goal.returns-then-clashing_rows
returns-then-clashing_rows c =
    let e : drop c.search.i c.args.rows.now ≡ get_or c.args.rows.now c.search.i no_row ∷ c.behind-later.result.now = rw (drop-cons _ _ no_row c.search-test.true, c.behind-later.ensures, add-one) in
    pairs_found clashing e (left_found _ no_row _ c.loop-b.invariant.0 c.loop-b-test.true (sym c.clashing_rows.ensures ∙ c.if-clashing_rows.true)) ∙ sym c.search.invariant.0
