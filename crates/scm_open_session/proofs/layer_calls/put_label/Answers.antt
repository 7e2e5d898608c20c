use Rattle.std.proofs.Common.{Some, refl, ap}
use Rattle.scm_open_session.specs.Boxes.{box_value}
use Rattle.scm_open_session.specs.Painters.{HaveLabel}
use Rattle.scm_open_session.proofs.LayerCallLemmas.{closed_layer_code, layer_code, painters_change}
use Rattle.scm_open_session.proofs.layer_calls.put_label.Goals as goal

pub returns-in-Some-clause-code : goal.returns-in-Some-clause-code
returns-in-Some-clause-code c =
    layer_code (box_value c.args.session.now) c.in-Some.inner.value c.deref_mut.result.now c.label.result
    (ap box_value c.in-Some.is) c.deref_mut.ensures.value c.label.ensures.code

pub returns-in-Some-clause-labelled : goal.returns-in-Some-clause-labelled
returns-in-Some-clause-labelled c = λ done.
    painters_change (HaveLabel c.args.label) (box_value c.args.session.now) (Some c.label.new.self) c.in-Some.inner.value c.deref_mut.result.now c.label.new.self
    (ap box_value c.in-Some.is) c.deref_mut.ensures.value refl (c.label.ensures.labelled done) c.label.ensures.stage c.label.ensures.decoder

pub returns-in-None-clause-code : goal.returns-in-None-clause-code
returns-in-None-clause-code c = closed_layer_code (box_value c.args.session.now) (ap box_value c.in-None.is)
