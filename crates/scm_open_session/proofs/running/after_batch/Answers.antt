use Rattle.scm_open_session.proofs.BatchLemmas.{presses_all, view_presses_all}
use Rattle.scm_open_session.proofs.running.after_batch.Goals as goal

pub returns-in-Plain : goal.returns-in-Plain
returns-in-Plain c =
    presses_all c.args.events.now c.in-Plain.session c.handle_all.result c.args.session c.stage_of.result c.in-Plain.is c.stage_of.ensures c.handle_all.ensures.ok c.handle_all.ensures.err

pub returns-in-Layered : goal.returns-in-Layered
returns-in-Layered c =
    view_presses_all c.args.events.now c.in-Layered.view c.press_all.result c.args.session c.stage_of_view.result
    c.in-Layered.is c.stage_of_view.ensures c.press_all.ensures.ok c.press_all.ensures.err
