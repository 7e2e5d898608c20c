use Rattle.std.proofs.Common.{◌≡◌, arith, length}
use Rattle.std.proofs.lemmas.Bool.Decides.{nat_tests}
use Rattle.scm_cells.proofs.BeginningLemmas.{Adds-all, Adds-past}
use Rattle.scm_cells.proofs.beginnings.push_first_spans.Goals as goal

pub returns-in-None-columns_after-clause-ok : goal.returns-in-None-columns_after-clause-ok
returns-in-None-columns_after-clause-ok c =
    Adds-past _ _ _ _ _ _ _ _ _ _ c.pieces.invariant.pushed c.in-Some-cut_at_replaced.ensures.some c.in_ok-push_replaced-in-Some-cut_at_replaced.ensures c.in-None-columns_after.ensures.none

pub returns-then-is_empty-clause-ok : goal.returns-then-is_empty-clause-ok
returns-then-is_empty-clause-ok c =
    let none : length c.in-Some-cut_at_replaced.rest.now ≡ 0 = grind (arith, nat_tests) in
    Adds-all _ _ _ _ _ _ _ _ _ _ c.pieces.invariant.pushed c.in-Some-cut_at_replaced.ensures.some c.in_ok-push_replaced-in-Some-cut_at_replaced.ensures none
