use Rattle.std.proofs.Common.{sym, subst}
use Rattle.scm_open_session.specs.declared.open_session.Stage.TheVariants.{Waiting}
use Rattle.scm_open_session.specs.declared.running.Running.{Running}
use Rattle.scm_open_session.specs.Selecting.{Selects}
use Rattle.scm_open_session.proofs.select_calls.selected.Goals as goal

pub returns-in-Plain : goal.returns-in-Plain
returns-in-Plain c = subst (λ (s : Running). Selects c.args.key (Waiting s) c.selected_plain.result) (sym c.in-Plain.is) c.selected_plain.ensures

pub returns-in-Layered : goal.returns-in-Layered
returns-in-Layered c =
    subst (λ (s : Running). Selects c.args.key (Waiting s) c.after_start-stage.result.0) (sym c.in-Layered.is)
    (Selects.layered (c.after_start-stage.ensures.set c.after_start-stage.ensures.is_layered))
