use Rattle.std.proofs.Common.{arith}
use Rattle.scm_types.proofs.LimitLemmas.{text_limit}
use Rattle.scm_c_values.proofs.CodeLemmas.{long_message, bad_message, good_message}
use Rattle.scm_c_values.specs.Codes.{IsCode}
use Rattle.scm_c_values.proofs.inputs.message_of.Goals as goal

pub returns-then-text-gt-MAX_TEXT-clause-err : goal.returns-then-text-gt-MAX_TEXT-clause-err
returns-then-text-gt-MAX_TEXT-clause-err c = λ otherwise. long_message c.args.text.now otherwise c.if-text-gt-MAX_TEXT.true

pub returns-in_default-clause-err : goal.returns-in_default-clause-err
returns-in_default-clause-err c = λ otherwise. bad_message c.args.text.now otherwise (omega (arith, text_limit, c.if-text-gt-MAX_TEXT.false)) c.in_default.ensures.cases.0

pub returns-in_default-from_str-clause-err : goal.returns-in_default-from_str-clause-err
returns-in_default-from_str-clause-err c = λ otherwise. IsCode.no_memory (good_message c.args.text.now (omega (arith, text_limit, c.if-text-gt-MAX_TEXT.false)) c.in-Ok.ensures.cases.1)

pub returns-clause-good : goal.returns-clause-good
returns-clause-good c = good_message c.args.text.now (omega (arith, text_limit, c.if-text-gt-MAX_TEXT.false)) c.in-Ok.ensures.cases.1
