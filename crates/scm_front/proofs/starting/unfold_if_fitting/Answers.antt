use Rattle.std.proofs.Common.{true, List, ap, ◌∙◌}
use Rattle.std.proofs.lemmas.Result.{IfOk-weaker}
use Rattle.scm_record.specs.declared.live.Turn.TheVariants.{Waiting, Editing, Accepted}
use Rattle.scm_types.specs.declared.keys.SelectionKey.{SelectionKey}
use Rattle.scm_front.specs.Driving.{turn_of}
use Rattle.scm_front.specs.Starting.{folds_again, tries}
use Rattle.scm_front.proofs.BegunLemmas.{leads-same, leads-still, leads-via}
use Rattle.scm_front.proofs.OutcomeLemmas.{same-folds}
use Rattle.scm_front.proofs.StartLemmas.{again-folds, are-folds, could-fit, fits-as-is, refolds-same, refolds-then, tries-all, unfolds-none}
use Rattle.scm_front.proofs.starting.unfold_if_fitting.Goals as goal

pub returns-in-Waiting-clause-ok : goal.returns-in-Waiting-clause-ok
returns-in-Waiting-clause-ok c =
    IfOk-weaker c.fold_unless_shown.result _ _ (λ last q.
    leads-via c.args.session c.in-Waiting.mid (turn_of c.in_ok-turn.turn) (turn_of last) (ap turn_of c.in-Waiting.is) c.in_ok-turn.ensures.ok q)
    c.fold_unless_shown.ensures.ok

pub returns-in-Editing-clause-ok : goal.returns-in-Editing-clause-ok
returns-in-Editing-clause-ok c =
    leads-same (Waiting c.args.session) (turn_of c.in_ok-turn.turn) (Editing c.in-Editing.editing) (ap turn_of c.in-Editing.is) c.in_ok-turn.ensures.ok

pub returns-clause-ok : goal.returns-clause-ok
returns-clause-ok c =
    leads-same (Waiting c.args.session) (turn_of c.in_ok-turn.turn) (Accepted c.in-Accepted.state) (ap turn_of c.in-Accepted.is) c.in_ok-turn.ensures.ok

pub returns-then-cannot_fit-clause-ok : goal.returns-then-cannot_fit-clause-ok
returns-then-cannot_fit-clause-ok c = leads-still (Waiting c.args.session)

pub returns-in-Waiting-clause-folds : goal.returns-in-Waiting-clause-folds
returns-in-Waiting-clause-folds c =
    let again = c.in_ok-folds.ensures.ok in
    IfOk-weaker c.fold_unless_shown.result _ _ (λ last r.
    refolds-then c.args.session c.in-Waiting.mid (turn_of c.in_ok-turn.turn) (turn_of last) (ap turn_of c.in-Waiting.is) c.in_ok-turn.ensures.folds r)
    (c.fold_unless_shown.ensures.folds (are-folds _ _ (c.as_slice-in-Waiting.ensures.value ∙ again) (again-folds c.args.session.session.shown.expanded c.as_slice-3.result.now)))

pub returns-in-Editing-clause-folds : goal.returns-in-Editing-clause-folds
returns-in-Editing-clause-folds c =
    refolds-same c.args.session (turn_of c.in_ok-turn.turn) (Editing c.in-Editing.editing) (ap turn_of c.in-Editing.is) c.in_ok-turn.ensures.folds

pub returns-clause-folds : goal.returns-clause-folds
returns-clause-folds c =
    refolds-same c.args.session (turn_of c.in_ok-turn.turn) (Accepted c.in-Accepted.state) (ap turn_of c.in-Accepted.is) c.in_ok-turn.ensures.folds

pub returns-then-cannot_fit-clause-folds : goal.returns-then-cannot_fit-clause-folds
returns-then-cannot_fit-clause-folds c = same-folds c.args.session

pub returns-then-cannot_fit-clause-fits : goal.returns-then-cannot_fit-clause-fits
returns-then-cannot_fit-clause-fits c =
    fits-as-is c.args.session c.as_slice.result.now c.cannot_fit.result (c.as_slice.ensures.value ∙ c.in_ok-keys.ensures.ok) c.cannot_fit.ensures c.if-cannot_fit.true

pub returns-in-Waiting-clause-fits : goal.returns-in-Waiting-clause-fits
returns-in-Waiting-clause-fits c =
    let l = c.args.session in
    let fits = could-fit l c.as_slice.result.now c.cannot_fit.result (c.as_slice.ensures.value ∙ c.in_ok-keys.ensures.ok) c.cannot_fit.ensures c.if-cannot_fit.false in
    let keys = c.as_slice-3.ensures.value ∙ c.in_ok-keys.ensures.ok in
    let deeds =
    c.as_slice-in-Waiting.ensures.value
    ∙ (c.in_ok-folds.ensures.ok ∙ ap (λ (ks : List SelectionKey). folds_again l.session.shown.expanded ks) keys) in
    IfOk-weaker c.fold_unless_shown.result _ _ (λ last shown.
    tries fits
    (tries-all l c.in-Waiting.mid (turn_of c.in_ok-turn.turn) (turn_of last) _ _ (ap turn_of c.in-Waiting.is) c.in_ok-turn.ensures.folds
    c.in_ok-turn.ensures.unfolded deeds c.selection_of-back.ensures shown))
    c.fold_unless_shown.ensures.shown

pub returns-in-Editing-clause-fits : goal.returns-in-Editing-clause-fits
returns-in-Editing-clause-fits c =
    absurd (unfolds-none true c.args.session (turn_of c.in_ok-turn.turn) (Editing c.in-Editing.editing) (ap turn_of c.in-Editing.is) c.in_ok-turn.ensures.unfolded)

pub returns-clause-fits : goal.returns-clause-fits
returns-clause-fits c =
    absurd (unfolds-none true c.args.session (turn_of c.in_ok-turn.turn) (Accepted c.in-Accepted.state) (ap turn_of c.in-Accepted.is) c.in_ok-turn.ensures.unfolded)
