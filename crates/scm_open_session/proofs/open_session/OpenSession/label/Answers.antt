use Rattle.scm_open_session.specs.LayerCalls.{has_layer}
use Rattle.scm_open_session.proofs.LayerCallLemmas.{memory_code, no_layer_code}
use Rattle.scm_open_session.proofs.open_session.OpenSession.label.Goals as goal

pub returns-then-not-has_layer-clause-code : goal.returns-then-not-has_layer-clause-code
returns-then-not-has_layer-clause-code c =
    no_layer_code (has_layer c.args.self.now.stage) c.has_layer.result c.has_layer.ensures c.if-not-has_layer.true

pub returns-clause-code : goal.returns-clause-code
returns-clause-code c =
    memory_code (has_layer c.args.self.now.stage) c.has_layer.result c.label.result c.resize_code.result c.has_layer.ensures c.if-not-has_layer.false c.resize_code.ensures
