use Rattle.std.proofs.Common.{refl}
use Rattle.scm_c_values.specs.Codes.{IsCode}
use Rattle.scm_c_values.proofs.CodeLemmas.{not_utf8}
use Rattle.scm_open_session.proofs.KeyPieceLemmas.{found_keys, no_key_code, no_text_code}
use Rattle.scm_open_session.proofs.own_keys.keys_of.Goals as goal

pub returns-in_default-clause-err : goal.returns-in_default-clause-err
returns-in_default-clause-err c = λ inner. no_text_code c.args.text.now inner (not_utf8 c.args.text.now c.in_default.ensures.cases.0)

pub returns-in_default-push_keys-clause-err : goal.returns-in_default-push_keys-clause-err
returns-in_default-push_keys-clause-err c = λ inner. IsCode.no_memory refl

pub returns-then-is_known-clause-ok : goal.returns-then-is_known-clause-ok
returns-then-is_known-clause-ok c =
    found_keys c.args.text.now c.in-Ok.text.now c.new-keys.result.items c.push_keys.new.keys.items c.in-Ok-push_keys.is_known c.in-Ok.ensures.cases.1
    c.in-Ok.ensures.cases.0 c.new-keys.ensures.items c.in-Ok-push_keys.ensures c.if-is_known.true

pub returns-else-is_known-clause-err : goal.returns-else-is_known-clause-err
returns-else-is_known-clause-err c = λ inner.
    no_key_code c.args.text.now c.in-Ok.text.now c.new-keys.result.items c.push_keys.new.keys.items c.in-Ok-push_keys.is_known inner c.in-Ok.ensures.cases.1
    c.in-Ok.ensures.cases.0 c.in-Ok-push_keys.ensures c.if-is_known.false
