use Rattle.std.proofs.Common.{ap, sym, subst}
use Rattle.std.specs.Prelude.{not, string_bytes}
use Rattle.scm_open_session.specs.declared.open_session.Stage.TheVariants.{Editing}
use Rattle.scm_open_session.specs.declared.running.MessageEdit.{MessageEdit}
use Rattle.scm_open_session.specs.Counting.{SaysAndCounts}
use Rattle.scm_open_session.specs.Running.{is_edit_layered}
use Rattle.scm_open_session.proofs.count_calls.after_counted_message.Goals as goal

pub returns-in-Plain-clause-is_counted : goal.returns-in-Plain-clause-is_counted
returns-in-Plain-clause-is_counted c = ap (λ (s : MessageEdit). not (is_edit_layered s)) (sym c.in-Plain.is)

pub returns-in-Plain-clause-said : goal.returns-in-Plain-clause-said
returns-in-Plain-clause-said c =
    subst (λ (s : MessageEdit). SaysAndCounts (string_bytes c.args.text) c.after_plain_message-stage.result.1 (Editing s) c.after_plain_message-stage.result.0) (sym c.in-Plain.is)
    c.after_plain_message-stage.ensures

pub returns-in-Layered-clause-is_counted : goal.returns-in-Layered-clause-is_counted
returns-in-Layered-clause-is_counted c = ap (λ (s : MessageEdit). not (is_edit_layered s)) (sym c.in-Layered.is)
