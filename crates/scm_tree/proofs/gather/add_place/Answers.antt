use Rattle.std.proofs.Common.{List, refl, ◌∙◌, sym, subst}
use Rattle.scm_tree.specs.declared.place.Place.{Place}
use Rattle.scm_tree.specs.Places.{IsAdded}
use Rattle.scm_tree.proofs.PathLemmas.{before_total}
use Rattle.scm_tree.proofs.GatherLemmas.{added_after, added_joined}
use Rattle.scm_tree.proofs.gather.add_place.Goals as goal

pub returns-then-is_before-clause-added : goal.returns-then-is_before-clause-added
returns-then-is_before-clause-added c =
    subst (λ (xs : List Place). IsAdded c.args.done.now.items c.args.last c.args.place xs c.args.place) (sym c.in_ok-add.ensures)
    (added_after c.args.done.now.items c.args.last c.args.place c.requires.in_order (sym c.is_before.ensures ∙ c.if-is_before.true))

pub returns-clause-added : goal.returns-clause-added
returns-clause-added c =
    added_joined c.args.done.now.items c.args.last c.args.place c.joined.result c.requires.in_order c.requires.after
    (sym c.is_before.ensures ∙ c.if-is_before.false) (sym c.is_twice.ensures ∙ c.if-is_twice.false) c.joined.ensures

pub returns-then-is_twice-clause-fault : goal.returns-then-is_twice-clause-fault
returns-then-is_twice-clause-fault c =
    (refl, (before_total c.args.last.path.now c.args.place.path.now (sym c.is_before.ensures ∙ c.if-is_before.false) c.requires.after, sym c.is_twice.ensures ∙ c.if-is_twice.true))
