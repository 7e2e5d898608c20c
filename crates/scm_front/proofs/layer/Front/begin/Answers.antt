use Rattle.std.proofs.Common.{subst, sym}
use Rattle.scm_record.specs.declared.live.Turn.{Turn}
use Rattle.scm_record.specs.declared.live.Turn.TheVariants.{Waiting}
use Rattle.scm_front.specs.Begun.{LeadsOn}
use Rattle.scm_front.specs.Driving.{turn_of}
use Rattle.scm_front.specs.Starting.{Starts}
use Rattle.scm_front.proofs.BegunLemmas.{leads-then}
use Rattle.scm_front.proofs.layer.Front.begin.Goals as goal

pub returns-clause-ok : goal.returns-clause-ok
returns-clause-ok c =
    let first = Waiting c.args.self.beneath in
    let led = leads-then first (turn_of c.in_ok-folded.folded) (turn_of c.in_ok-turn.turn) c.in_ok-folded.ensures.ok c.in_ok-turn.ensures.ok in
    subst (λ (t : Turn). LeadsOn first t) (sym c.front_turn.ensures.beneath) led

pub returns-clause-starts : goal.returns-clause-starts
returns-clause-starts c =
    let l = c.args.self.beneath in
    subst (λ (t : Turn). Starts c.args.folds l c.args.first t) (sym c.front_turn.ensures.beneath)
    (c.in_ok-turn.ensures.selected c.args.folds l c.in_ok-folded.ensures.folds c.in_ok-folded.ensures.unfolded)
