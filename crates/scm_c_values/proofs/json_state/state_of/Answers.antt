use Rattle.std.proofs.Common.{ℕ, List, sym, ap, ◌∙◌, option_and_then}
use Rattle.std.proofs.lemmas.Str.{is_utf8-from_IsUtf8}
use Rattle.serde_json.specs.Read.{read}
use Rattle.scm_json.specs.Form as form_of
use Rattle.scm_c_values.specs.Codes.{IsCode}
use Rattle.scm_c_values.proofs.CodeLemmas.{bad_text, no_form, not_accepted}
use Rattle.scm_c_values.proofs.json_state.state_of.Goals as goal

pub returns-in_default-clause-err : goal.returns-in_default-clause-err
returns-in_default-clause-err c = bad_text c.args.json.now c.in_default.ensures.cases.0

pub returns-in-Ok-None-clause-err : goal.returns-in-Ok-None-clause-err
returns-in-Ok-None-clause-err c =
    no_form c.args.json.now c.in-Ok.ensures.cases.1
    (ap (λ (bytes : List ℕ). option_and_then form_of.state_of (read bytes)) (sym c.in-Ok.ensures.cases.0) ∙ sym c.in-Ok-None.ensures.ok ∙ c.in-Ok-None.field-0-is)

pub returns-in-Err-clause-err : goal.returns-in-Err-clause-err
returns-in-Err-clause-err c = IsCode.no_memory (is_utf8-from_IsUtf8 c.args.json.now c.in-Ok.ensures.cases.1)

pub returns-then-is_accepted-clause-text : goal.returns-then-is_accepted-clause-text
returns-then-is_accepted-clause-text c = is_utf8-from_IsUtf8 c.args.json.now c.in-Ok.ensures.cases.1

pub returns-clause-err : goal.returns-clause-err
returns-clause-err c =
    not_accepted c.args.json.now c.in-Ok-Some.state c.in-Ok.ensures.cases.1
    (ap (λ (bytes : List ℕ). option_and_then form_of.state_of (read bytes)) (sym c.in-Ok.ensures.cases.0) ∙ sym c.in-Ok-Some.ensures.ok ∙ c.in-Ok-Some.field-0-is)
    (sym c.is_accepted.ensures ∙ c.if-is_accepted.false)
