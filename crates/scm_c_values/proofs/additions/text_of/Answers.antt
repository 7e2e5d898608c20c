use Rattle.std.proofs.Common.{◌∙◌}
use Rattle.scm_c_values.proofs.CodeLemmas.{no_text, text_found}
use Rattle.scm_c_values.proofs.additions.text_of.Goals as goal

pub returns-in-Ok : goal.returns-in-Ok
returns-in-Ok c = text_found c.args.bytes.now c.from.result (c.from.ensures ∙ c.in-Ok.ensures.cases.0) c.in-Ok.ensures.cases.1

pub returns-in-Err : goal.returns-in-Err
returns-in-Err c = no_text c.args.bytes.now c.in-Err.ensures.cases.0
