use Rattle.scm_open_session.proofs.StageLemmas.{idles, view-idles}
use Rattle.scm_open_session.proofs.running.after_silence.Goals as goal

pub returns-in-Plain : goal.returns-in-Plain
returns-in-Plain c =
    idles c.args.decoder.now c.idle.new.decoder c.in-Plain.session c.idle.result c.args.session c.stage_of.result
    c.in-Plain.is c.stage_of.ensures c.idle.ensures.ok c.idle.ensures.err

pub returns-in-Layered : goal.returns-in-Layered
returns-in-Layered c =
    view-idles c.args.decoder.now c.idle-in-Layered.new.decoder c.in-Layered.view c.idle-in-Layered.result c.args.session c.stage_of_view.result
    c.in-Layered.is c.stage_of_view.ensures c.idle-in-Layered.ensures.ok c.idle-in-Layered.ensures.err
