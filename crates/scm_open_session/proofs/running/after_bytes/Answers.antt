use Rattle.scm_open_session.proofs.StageLemmas.{types, view-types}
use Rattle.scm_open_session.proofs.running.after_bytes.Goals as goal

pub returns-in-Plain : goal.returns-in-Plain
returns-in-Plain c =
    types c.args.bytes.now c.args.decoder.now c.typed.new.decoder c.in-Plain.session c.typed.result c.args.session c.stage_of.result
    c.in-Plain.is c.stage_of.ensures c.typed.ensures.ok c.typed.ensures.err

pub returns-in-Layered : goal.returns-in-Layered
returns-in-Layered c =
    view-types c.args.bytes.now c.args.decoder.now c.typed-in-Layered.new.decoder c.in-Layered.view c.typed-in-Layered.result c.args.session c.stage_of_view.result
    c.in-Layered.is c.stage_of_view.ensures c.typed-in-Layered.ensures.ok c.typed-in-Layered.ensures.err
