use Rattle.std.proofs.Common.{get_or, refl, subst}
use Rattle.std.proofs.lemmas.List.{get_or_default}
use Rattle.scm_tree.specs.declared.decision.Moved.{Moved}
use Rattle.scm_tree.specs.Decisions.{IsMoved}
use Rattle.scm_tree.proofs.ReasonLemmas.{a_rename, no_new_row, no_old_row, no_rename}
use Rattle.scm_tree.proofs.decision.is_moved.Goals as goal

pub returns-in_default-clause-no : goal.returns-in_default-clause-no
returns-in_default-clause-no c = λ e d s.
    no_old_row c.args.rows.now _ (c.in_default.ensures.none refl)
    (subst (λ (m : Moved). IsMoved c.args.rows.now m) (get_or_default c.args.moved.now c.args.i d _ c.requires.within) s)

pub returns-in_default-row_number-clause-no : goal.returns-in_default-row_number-clause-no
returns-in_default-row_number-clause-no c = λ e d s.
    no_new_row c.args.rows.now (get_or c.args.moved.now c.args.i _) (c.in_default-row_number.ensures.none refl)
    (subst (λ (m : Moved). IsMoved c.args.rows.now m) (get_or_default c.args.moved.now c.args.i d _ c.requires.within) s)

pub returns-clause-no : goal.returns-clause-no
returns-clause-no c = λ e d s.
    no_rename c.args.rows.now (get_or c.args.moved.now c.args.i _) c.in-Some.old c.in-Some-row_number.new c.requires.order c.in-Some.ensures.some c.in-Some-row_number.ensures.some (c.is_rename.ensures.no e)
    (subst (λ (m : Moved). IsMoved c.args.rows.now m) (get_or_default c.args.moved.now c.args.i d _ c.requires.within) s)

pub returns-clause-yes : goal.returns-clause-yes
returns-clause-yes c = λ e d.
    subst (λ (m : Moved). IsMoved c.args.rows.now m) (get_or_default c.args.moved.now c.args.i _ d c.requires.within)
    (a_rename c.args.rows.now (get_or c.args.moved.now c.args.i _) c.in-Some.old c.in-Some-row_number.new c.in-Some.ensures.some c.in-Some-row_number.ensures.some (c.is_rename.ensures.yes e))
