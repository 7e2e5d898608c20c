use Rattle.std.proofs.Common.{refl, ap}
use Rattle.std.proofs.lemmas.Result.{IfOk-weaker}
use Rattle.scm_record.specs.declared.live.Turn.TheVariants.{Editing, Accepted}
use Rattle.scm_front.specs.Driving.{turn_of}
use Rattle.scm_front.specs.Fronts.{selection_of}
use Rattle.scm_front.proofs.DeedLemmas.{part-leaves, parts-lead}
use Rattle.scm_front.proofs.marking.restore_marks.Goals as goal

pub returns-in-Waiting-clause-ok : goal.returns-in-Waiting-clause-ok
returns-in-Waiting-clause-ok c =
    IfOk-weaker c.last_part.result _ _ (λ last r.
    parts-lead c.args.session c.in-Waiting.mid c.selection_of-back.result (selection_of c.args.session) (turn_of c.in_ok-turn.turn) (turn_of last)
    c.selection_of-back.ensures (ap turn_of c.in-Waiting.is) c.in_ok-turn.ensures.ok r)
    c.last_part.ensures.ok

pub returns-in-Editing-clause-ok : goal.returns-in-Editing-clause-ok
returns-in-Editing-clause-ok c =
    part-leaves c.args.session (selection_of c.args.session) (turn_of c.in_ok-turn.turn) (Editing c.in-Editing.editing) (ap turn_of c.in-Editing.is) refl c.in_ok-turn.ensures.ok

pub returns-in-Accepted-clause-ok : goal.returns-in-Accepted-clause-ok
returns-in-Accepted-clause-ok c =
    part-leaves c.args.session (selection_of c.args.session) (turn_of c.in_ok-turn.turn) (Accepted c.in-Accepted.state) (ap turn_of c.in-Accepted.is) refl c.in_ok-turn.ensures.ok
