use Rattle.std.proofs.Common.{List, subst, sym}
use Rattle.std.proofs.lemmas.Result.{err_from_is_err_and}
use Rattle.scm_tree.specs.declared.row.Row.{Row}
use Rattle.scm_tree.specs.Merge.{AreMerged}
use Rattle.scm_tree.proofs.decision.decide.Goals as goal

pub returns-in_err-check_choice : goal.returns-in_err-check_choice
returns-in_err-check_choice c =
    let error = err_from_is_err_and c.from_residual-in_err-check_choice.result c.from_residual-in_err-check_choice.ensures.1 in
    rw (error.1, error.2)
    (c.in_err-check_choice.ensures.fault c.args.old.now c.args.new.now c.args.marks.now
    (subst (λ (rs : List Row). AreMerged c.args.count c.args.old.now c.args.new.now c.args.marks.now rs) (sym c.as_slice.ensures.value) c.in_ok-rows.ensures))
