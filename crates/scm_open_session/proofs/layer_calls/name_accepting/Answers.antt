use Rattle.std.proofs.Common.{ℕ, List, Some, refl, sym, ap, subst, ◌∙◌}
use Rattle.scm_open_session.specs.Boxes.{box_value}
use Rattle.scm_open_session.specs.LayerCalls.{ChangesPainters, has_layer}
use Rattle.scm_open_session.specs.Painters.{HaveWords}
use Rattle.scm_open_session.specs.Results.{code_where}
use Rattle.scm_open_session.proofs.LayerCallLemmas.{painters_change}
use Rattle.scm_open_session.proofs.ResultLemmas.{call_code}
use Rattle.scm_c_values.proofs.CodeLemmas.{message_code}
use Rattle.scm_open_session.proofs.layer_calls.name_accepting.Goals as goal

pub returns-in-Some-clause-named : goal.returns-in-Some-clause-named
returns-in-Some-clause-named c = λ done.
    subst (λ (text : List ℕ). ChangesPainters (HaveWords text) (box_value c.args.session.now) (Some c.name_accepting.new.self)) (c.from.ensures ∙ c.in-Ok.ensures.ok)
    (painters_change (HaveWords c.from.result) (box_value c.args.session.now) (Some c.name_accepting.new.self) c.in-Some.inner.value c.deref_mut.result.now c.name_accepting.new.self
    (ap box_value c.in-Some.is) c.deref_mut.ensures.value refl (c.name_accepting.ensures.named (c.done_or_not_now.ensures.done done)) c.name_accepting.ensures.stage c.name_accepting.ensures.decoder)

pub returns-in-Some-clause-code : goal.returns-in-Some-clause-code
returns-in-Some-clause-code c =
    message_code c.args.text.now (code_where has_layer (box_value c.args.session.now)) c.done_or_not_now.result c.in-Ok.ensures.good
    (c.done_or_not_now.ensures.code
    ∙ call_code has_layer (box_value c.args.session.now) c.in-Some.inner.value c.deref_mut.result.now c.name_accepting.result
    (ap box_value c.in-Some.is) c.deref_mut.ensures.value c.name_accepting.ensures.has_layer)

pub returns-in-None-clause-code : goal.returns-in-None-clause-code
returns-in-None-clause-code c =
    message_code c.args.text.now (code_where has_layer (box_value c.args.session.now)) 1 c.in-Ok.ensures.good
    (ap (λ o. code_where has_layer o) (sym (ap box_value c.in-None.is)))
