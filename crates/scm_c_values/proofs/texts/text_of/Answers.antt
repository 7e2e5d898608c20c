use Rattle.std.proofs.Common.{sym}
use Rattle.std.proofs.lemmas.Str.{is_utf8-from_IsUtf8}
use Rattle.scm_c_values.proofs.CodeLemmas.{not_utf8}
use Rattle.scm_c_values.proofs.texts.text_of.Goals as goal

pub returns-in-Ok-clause-is_text : goal.returns-in-Ok-clause-is_text
returns-in-Ok-clause-is_text c = sym (is_utf8-from_IsUtf8 c.args.bytes.now c.in-Ok.ensures.cases.1)

pub returns-in-Err-clause-is_text : goal.returns-in-Err-clause-is_text
returns-in-Err-clause-is_text c = sym (not_utf8 c.args.bytes.now c.in-Err.ensures.cases.0)
