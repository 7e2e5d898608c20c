use Rattle.std.proofs.Common.{Some, refl, ap}
use Rattle.scm_open_session.specs.Boxes.{box_value}
use Rattle.scm_open_session.proofs.LayerCallLemmas.{closed_layer_starts, layer_starts}
use Rattle.scm_open_session.proofs.layer_calls.begin.Goals as goal

pub returns-in-Some : goal.returns-in-Some
returns-in-Some c =
    layer_starts c.args.width c.args.height (box_value c.args.session.now) (Some c.begin_layer.new.self) c.in-Some.inner.value c.deref_mut.result.now c.begin_layer.new.self c.begin_layer.result
    (ap box_value c.in-Some.is) c.deref_mut.ensures.value refl c.begin_layer.ensures.starts c.begin_layer.ensures.decoder c.begin_layer.ensures.painter

pub returns-in-None : goal.returns-in-None
returns-in-None c =
    closed_layer_starts c.args.width c.args.height (box_value c.args.session.now) (box_value c.args.session.now) (ap box_value c.in-None.is) (ap box_value c.in-None.is)
