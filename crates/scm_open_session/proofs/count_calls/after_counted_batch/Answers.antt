use Rattle.std.proofs.Common.{ap, sym, subst}
use Rattle.std.specs.Prelude.{not}
use Rattle.scm_open_session.specs.declared.open_session.Stage.TheVariants.{Waiting}
use Rattle.scm_open_session.specs.declared.running.Running.{Running}
use Rattle.scm_open_session.specs.Counting.{PressesAndCounts}
use Rattle.scm_open_session.specs.Running.{is_layered}
use Rattle.scm_open_session.proofs.count_calls.after_counted_batch.Goals as goal

pub returns-in-Plain-clause-is_counted : goal.returns-in-Plain-clause-is_counted
returns-in-Plain-clause-is_counted c = ap (λ (s : Running). not (is_layered s)) (sym c.in-Plain.is)

pub returns-in-Plain-clause-pressed : goal.returns-in-Plain-clause-pressed
returns-in-Plain-clause-pressed c =
    subst (λ (s : Running). PressesAndCounts c.args.events.now c.after_plain_batch-stage.result.1 (Waiting s) c.after_plain_batch-stage.result.0) (sym c.in-Plain.is)
    c.after_plain_batch-stage.ensures

pub returns-in-Layered-clause-is_counted : goal.returns-in-Layered-clause-is_counted
returns-in-Layered-clause-is_counted c = ap (λ (s : Running). not (is_layered s)) (sym c.in-Layered.is)
