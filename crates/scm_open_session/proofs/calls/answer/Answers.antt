use Rattle.std.proofs.Common.{ℕ, List, Some, refl, sym, ap, subst, ◌∙◌}
use Rattle.std.specs.Prelude.{string_bytes}
use Rattle.scm_open_session.specs.Boxes.{box_value}
use Rattle.scm_open_session.specs.Stages.{Says, ChangesStage, is_editing}
use Rattle.scm_open_session.proofs.StageLemmas.{stage-changes}
use Rattle.scm_open_session.specs.Results.{code_where}
use Rattle.scm_open_session.proofs.ResultLemmas.{call_code}
use Rattle.scm_c_values.proofs.CodeLemmas.{message_code}
use Rattle.scm_open_session.proofs.calls.answer.Goals as goal

pub returns-in-Some-clause-said : goal.returns-in-Some-clause-said
returns-in-Some-clause-said c = λ done.
    subst (λ (text : List ℕ). ChangesStage (Says text) (box_value c.args.session.now) (Some c.answer.new.self)) c.in-Ok.ensures.ok
    (stage-changes (Says (string_bytes c.in-Ok.message)) (box_value c.args.session.now) (Some c.answer.new.self) c.in-Some.inner.value c.deref_mut.result.now c.answer.new.self
    (ap box_value c.in-Some.is) c.deref_mut.ensures.value refl (c.answer.ensures.said (c.done_or_not_now.ensures.done done)) c.answer.ensures.decoder c.answer.ensures.painter)

pub returns-in-Some-clause-code : goal.returns-in-Some-clause-code
returns-in-Some-clause-code c =
    message_code c.args.text.now (code_where is_editing (box_value c.args.session.now)) c.done_or_not_now.result c.in-Ok.ensures.good
    (c.done_or_not_now.ensures.code
    ∙ call_code is_editing (box_value c.args.session.now) c.in-Some.inner.value c.deref_mut.result.now c.answer.result
    (ap box_value c.in-Some.is) c.deref_mut.ensures.value c.answer.ensures.is_editing)

pub returns-in-None-clause-code : goal.returns-in-None-clause-code
returns-in-None-clause-code c =
    message_code c.args.text.now (code_where is_editing (box_value c.args.session.now)) 1 c.in-Ok.ensures.good
    (ap (λ o. code_where is_editing o) (sym (ap box_value c.in-None.is)))
