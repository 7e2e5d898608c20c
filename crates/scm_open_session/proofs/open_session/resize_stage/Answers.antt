use Rattle.std.proofs.Common.{ap, sym, subst}
use Rattle.scm_open_session.specs.declared.open_session.Stage.{Stage}
use Rattle.scm_open_session.specs.declared.open_session.Stage.TheVariants.{Waiting}
use Rattle.scm_open_session.specs.Stages.{Resizes, is_waiting}
use Rattle.scm_c_values.specs.Screens.{screen_of}
use Rattle.scm_c_values.proofs.CodeLemmas.{is_resized, not_due_code, resize_code}
use Rattle.scm_open_session.proofs.open_session.resize_stage.Goals as goal

pub returns-in-Waiting-clause-resized : goal.returns-in-Waiting-clause-resized
returns-in-Waiting-clause-resized c = λ done.
    subst (λ (s : Stage). Resizes (screen_of c.args.width c.args.height) s (Waiting c.try_resize.new.session)) (sym c.in-Waiting.is)
    (c.try_resize.ensures.done (is_resized c.try_resize.result c.resize_code.result c.resize_code.ensures done))

pub returns-in-Waiting-clause-code : goal.returns-in-Waiting-clause-code
returns-in-Waiting-clause-code c = resize_code (is_waiting c.args.stage.now) c.try_resize.result c.resize_code.result (ap is_waiting c.in-Waiting.is) c.resize_code.ensures

pub returns-in-Building-clause-code : goal.returns-in-Building-clause-code
returns-in-Building-clause-code c = not_due_code (is_waiting c.args.stage.now) (ap is_waiting c.in-Building.is)

pub returns-in-Editing-clause-code : goal.returns-in-Editing-clause-code
returns-in-Editing-clause-code c = not_due_code (is_waiting c.args.stage.now) (ap is_waiting c.in-Editing.is)

pub returns-in-Accepted-clause-code : goal.returns-in-Accepted-clause-code
returns-in-Accepted-clause-code c = not_due_code (is_waiting c.args.stage.now) (ap is_waiting c.in-Accepted.is)

pub returns-in-Ended-clause-code : goal.returns-in-Ended-clause-code
returns-in-Ended-clause-code c = not_due_code (is_waiting c.args.stage.now) (ap is_waiting c.in-Ended.is)
