use Rattle.scm_open_session.proofs.StageLemmas.{presses, view-presses}
use Rattle.scm_open_session.proofs.running.after_event.Goals as goal

pub returns-in-Plain : goal.returns-in-Plain
returns-in-Plain c =
    presses c.args.event c.in-Plain.session c.handle.result c.args.session c.stage_of.result c.in-Plain.is c.stage_of.ensures c.handle.ensures.ok c.handle.ensures.err

pub returns-in-Layered : goal.returns-in-Layered
returns-in-Layered c =
    view-presses c.args.event c.in-Layered.view c.press.result c.args.session c.stage_of_view.result
    c.in-Layered.is c.stage_of_view.ensures c.press.ensures.ok c.press.ensures.err
