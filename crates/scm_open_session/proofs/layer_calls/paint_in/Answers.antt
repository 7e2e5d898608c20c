use Rattle.std.proofs.Common.{Some, refl, ap, ◌∙◌}
use Rattle.scm_open_session.specs.Boxes.{box_value}
use Rattle.scm_open_session.specs.LayerCalls.{has_layer}
use Rattle.scm_open_session.specs.Painters.{HaveTheme}
use Rattle.scm_open_session.proofs.LayerCallLemmas.{painters_change}
use Rattle.scm_open_session.proofs.ResultLemmas.{call_code}
use Rattle.scm_open_session.proofs.layer_calls.paint_in.Goals as goal

pub returns-in-Some-clause-themed : goal.returns-in-Some-clause-themed
returns-in-Some-clause-themed c = λ done.
    painters_change (HaveTheme c.args.theme) (box_value c.args.session.now) (Some c.set_theme.new.self) c.in-Some.inner.value c.deref_mut.result.now c.set_theme.new.self
    (ap box_value c.in-Some.is) c.deref_mut.ensures.value refl (c.set_theme.ensures.themed (c.done_or_not_now.ensures.done done)) c.set_theme.ensures.stage c.set_theme.ensures.decoder

pub returns-in-Some-clause-code : goal.returns-in-Some-clause-code
returns-in-Some-clause-code c =
    c.done_or_not_now.ensures.code
    ∙ call_code has_layer (box_value c.args.session.now) c.in-Some.inner.value c.deref_mut.result.now c.set_theme.result
    (ap box_value c.in-Some.is) c.deref_mut.ensures.value c.set_theme.ensures.has_layer
