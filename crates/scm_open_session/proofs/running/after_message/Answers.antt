use Rattle.std.specs.Prelude.{string_bytes}
use Rattle.scm_open_session.proofs.StageLemmas.{says, view-says}
use Rattle.scm_open_session.proofs.running.after_message.Goals as goal

pub returns-in-Plain : goal.returns-in-Plain
returns-in-Plain c =
    says (string_bytes c.args.text) c.in-Plain.editing c.answer.result c.args.edit c.stage_of.result c.in-Plain.is c.stage_of.ensures c.answer.ensures.ok c.answer.ensures.err

pub returns-in-Layered : goal.returns-in-Layered
returns-in-Layered c =
    view-says (string_bytes c.args.text) c.in-Layered.view c.answer-in-Layered.result c.args.edit c.stage_of_view.result
    c.in-Layered.is c.stage_of_view.ensures c.answer-in-Layered.ensures.ok c.answer-in-Layered.ensures.err
