use Rattle.std.proofs.Common.{refl, ap}
use Rattle.std.proofs.lemmas.Result.{IfOk-weaker}
use Rattle.scm_record.specs.declared.live.Turn.TheVariants.{Editing, Accepted}
use Rattle.scm_front.specs.Driving.{turn_of}
use Rattle.scm_front.proofs.DeedLemmas.{left-early, went-back}
use Rattle.scm_front.proofs.deeds.do_round.Goals as goal

pub returns-in-Waiting-clause-ok : goal.returns-in-Waiting-clause-ok
returns-in-Waiting-clause-ok c =
    IfOk-weaker c.go_back.result _ _ (λ last r.
    went-back c.args.session c.in-Waiting.mid c.args.deeds.now c.args.back (turn_of c.in_ok-turn.turn) (turn_of last) (ap turn_of c.in-Waiting.is) c.in_ok-turn.ensures.ok r)
    c.go_back.ensures.ok

pub returns-in-Editing-clause-ok : goal.returns-in-Editing-clause-ok
returns-in-Editing-clause-ok c =
    left-early c.args.session c.args.deeds.now c.args.back (turn_of c.in_ok-turn.turn) (Editing c.in-Editing.editing) (ap turn_of c.in-Editing.is) refl c.in_ok-turn.ensures.ok

pub returns-in-Accepted-clause-ok : goal.returns-in-Accepted-clause-ok
returns-in-Accepted-clause-ok c =
    left-early c.args.session c.args.deeds.now c.args.back (turn_of c.in_ok-turn.turn) (Accepted c.in-Accepted.state) (ap turn_of c.in-Accepted.is) refl c.in_ok-turn.ensures.ok
