use Rattle.std.proofs.Common.{ap}
use Rattle.std.proofs.lemmas.Result.{IfOk-weaker}
use Rattle.scm_record.specs.declared.live.Turn.TheVariants.{Waiting, Editing, Accepted}
use Rattle.scm_front.specs.Driving.{turn_of}
use Rattle.scm_front.proofs.BegunLemmas.{leads-from, leads-still}
use Rattle.scm_front.proofs.StartLemmas.{refolds-same, starts-with}
use Rattle.scm_front.proofs.starting.select_first.Goals as goal

pub returns-in-Waiting-clause-ok : goal.returns-in-Waiting-clause-ok
returns-in-Waiting-clause-ok c =
    IfOk-weaker c.select_in.result _ _ (λ last p.
    leads-from (turn_of c.args.turn) (Waiting c.in-Waiting.session) (turn_of last) (ap turn_of c.in-Waiting.is) p)
    c.select_in.ensures.ok

pub returns-in-Editing-clause-ok : goal.returns-in-Editing-clause-ok
returns-in-Editing-clause-ok c =
    leads-from (turn_of c.args.turn) (Editing c.in-Editing.editing) (Editing c.in-Editing.editing) (ap turn_of c.in-Editing.is) (leads-still (Editing c.in-Editing.editing))

pub returns-in-Accepted-clause-ok : goal.returns-in-Accepted-clause-ok
returns-in-Accepted-clause-ok c =
    leads-from (turn_of c.args.turn) (Accepted c.in-Accepted.state) (Accepted c.in-Accepted.state) (ap turn_of c.in-Accepted.is) (leads-still (Accepted c.in-Accepted.state))

pub returns-in-Waiting-clause-selected : goal.returns-in-Waiting-clause-selected
returns-in-Waiting-clause-selected c = λ folds l h u.
    IfOk-weaker c.select_in.result _ _ (λ last s.
    starts-with folds l c.in-Waiting.session c.args.first (turn_of c.args.turn) (turn_of last) (ap turn_of c.in-Waiting.is) h u s)
    c.select_in.ensures.selected

pub returns-in-Editing-clause-selected : goal.returns-in-Editing-clause-selected
returns-in-Editing-clause-selected c = λ folds l h u.
    absurd (refolds-same l (turn_of c.args.turn) (Editing c.in-Editing.editing) (ap turn_of c.in-Editing.is) h)

pub returns-in-Accepted-clause-selected : goal.returns-in-Accepted-clause-selected
returns-in-Accepted-clause-selected c = λ folds l h u.
    absurd (refolds-same l (turn_of c.args.turn) (Accepted c.in-Accepted.state) (ap turn_of c.in-Accepted.is) h)
