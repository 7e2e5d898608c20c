use Rattle.std.proofs.Common.{refl, subst}
use Rattle.scm_input.specs.declared.inputs.TerminalKind.{TerminalKind}
use Rattle.scm_open_session.specs.declared.open_session.Stage.TheVariants.{Waiting}
use Rattle.scm_open_session.specs.declared.running.Running.TheVariants as running
use Rattle.scm_open_session.specs.Stages.{Resizes}
use Rattle.scm_c_values.specs.Screens.{screen_of}
use Rattle.scm_open_session.proofs.StageLemmas.{resizes, view-resizes}
use Rattle.scm_open_session.proofs.running.try_resize.Goals as goal

pub returns-in-Plain-clause-done : goal.returns-in-Plain-clause-done
returns-in-Plain-clause-done c = λ done.
    subst (λ (kind : TerminalKind). Resizes kind (Waiting c.args.session.now) (Waiting (running.Plain c.try_resize_plain.new.session))) c.screen.ensures
    (resizes c.screen.result c.in-Plain.session c.try_resize_plain.new.session c.args.session.now (running.Plain c.try_resize_plain.new.session) c.in-Plain.is refl
    (c.try_resize_plain.ensures.done done))

pub returns-in-Layered-clause-done : goal.returns-in-Layered-clause-done
returns-in-Layered-clause-done c = λ done.
    view-resizes (screen_of c.args.width c.args.height) c.in-Layered.view c.try_resize_view.new.view c.args.session.now (running.Layered c.try_resize_view.new.view)
    c.in-Layered.is refl (c.try_resize_view.ensures.done done)
