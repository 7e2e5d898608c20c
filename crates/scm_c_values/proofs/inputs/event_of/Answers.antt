use Rattle.std.proofs.Common.{ap, ◌∙◌}
use Rattle.scm_script.specs.Words.{event_of_word}
use Rattle.scm_c_values.proofs.CodeLemmas.{no_event, word_event}
use Rattle.scm_c_values.proofs.inputs.event_of.Goals as goal

pub returns-in-Ok : goal.returns-in-Ok
returns-in-Ok c = c.read_event.ensures ∙ ap event_of_word c.in-Ok.ensures.cases.0 ∙ word_event c.args.word.now c.in-Ok.ensures.cases.1

pub returns-in-Err : goal.returns-in-Err
returns-in-Err c = no_event c.args.word.now c.in-Err.ensures.cases.0
