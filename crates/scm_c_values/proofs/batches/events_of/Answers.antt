use Rattle.std.proofs.Common.{refl}
use Rattle.scm_c_values.specs.Codes.{IsCode}
use Rattle.scm_c_values.proofs.CodeLemmas.{not_utf8}
use Rattle.scm_c_values.proofs.WordLemmas.{found_events, no_text_code, no_word_code}
use Rattle.scm_c_values.proofs.batches.events_of.Goals as goal

pub returns-in_default-clause-err : goal.returns-in_default-clause-err
returns-in_default-clause-err c = λ otherwise. no_text_code c.args.words.now otherwise (not_utf8 c.args.words.now c.in_default.ensures.cases.0)

pub returns-in_default-push_words-clause-err : goal.returns-in_default-push_words-clause-err
returns-in_default-push_words-clause-err c = λ otherwise. IsCode.no_memory refl

pub returns-then-is_known-clause-ok : goal.returns-then-is_known-clause-ok
returns-then-is_known-clause-ok c =
    found_events c.args.words.now c.in-Ok.words.now c.new-events.result.items c.push_words.new.events.items c.in-Ok-push_words.is_known c.in-Ok.ensures.cases.1
    c.in-Ok.ensures.cases.0 c.new-events.ensures.items c.in-Ok-push_words.ensures c.if-is_known.true

pub returns-else-is_known-clause-err : goal.returns-else-is_known-clause-err
returns-else-is_known-clause-err c = λ otherwise.
    no_word_code c.args.words.now c.in-Ok.words.now c.new-events.result.items c.push_words.new.events.items c.in-Ok-push_words.is_known otherwise c.in-Ok.ensures.cases.1
    c.in-Ok.ensures.cases.0 c.in-Ok-push_words.ensures c.if-is_known.false
