use Rattle.std.proofs.Common.{◌≡◌, [], List, subst}
use Rattle.scm_record.specs.LiveCalls.{Call, Path, still}
use Rattle.scm_record.specs.declared.live.Turn.{Turn}
use Rattle.scm_record.specs.declared.live.Turn.TheVariants.{Waiting}
use Rattle.scm_callers.proofs.PathLemmas.{path-goes}
use Rattle.scm_callers.proofs.terminal.type_in.Goals as goal

pub loop-chunk-init : goal.loop-chunk-init
loop-chunk-init c = ([], still)

pub returns-in_default : goal.returns-in_default
returns-in_default c = record { path = path-goes c.loop-chunk.invariant c.in_ok-turn.ensures.path.1 c.in_ok-ended.ensures.path }

pub loop-chunk-preserved : goal.loop-chunk-preserved
loop-chunk-preserved c =
    let same : c.in_ok-ended.ended ≡ Waiting c.in-Waiting.session = cc in
    subst (λ (t : Turn). (calls : List Call) × Path (Waiting c.args.session) calls t) same
    (path-goes c.loop-chunk.invariant c.in_ok-turn.ensures.path.1 c.in_ok-ended.ensures.path)
