use Rattle.std.proofs.Common.{◌≡◌, [], List, subst}
use Rattle.scm_record.specs.LiveCalls.{Call, Path, still, press}
use Rattle.scm_record.specs.declared.live.Turn.{Turn}
use Rattle.scm_record.specs.declared.live.Turn.TheVariants.{Waiting}
use Rattle.scm_callers.proofs.PathLemmas.{path-goes}
use Rattle.scm_callers.proofs.live.hand_in.Goals as goal

pub loop-event-init : goal.loop-event-init
loop-event-init c = ([], still)

pub returns-in_default : goal.returns-in_default
returns-in_default c =
    record { path = path-goes c.loop-event.invariant (press c.in_ok-turn.ensures.ok still) c.in_ok-ended.ensures.path }

pub loop-event-preserved : goal.loop-event-preserved
loop-event-preserved c =
    let same : c.in_ok-ended.ended ≡ Waiting c.in-Waiting.session = cc in
    subst (λ (t : Turn). (calls : List Call) × Path (Waiting c.args.session) calls t) same
    (path-goes c.loop-event.invariant (press c.in_ok-turn.ensures.ok still) c.in_ok-ended.ensures.path)
