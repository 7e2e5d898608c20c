use Rattle.scm_c_values.specs.Codes.{IsCode}
use Rattle.scm_open_session.proofs.LayerCallLemmas.{begins_layer}
use Rattle.scm_open_session.proofs.open_session.OpenSession.layered.Goals as goal

pub returns-in_default-clause-err : goal.returns-in_default-clause-err
returns-in_default-clause-err c = IsCode.no_memory c.in_ok-state.ensures.text

pub returns-in-None-clause-err : goal.returns-in-None-clause-err
returns-in-None-clause-err c = IsCode.no_memory c.in_ok-state.ensures.text

pub returns-in-Some-clause-ok : goal.returns-in-Some-clause-ok
returns-in-Some-clause-ok c =
    begins_layer c.args.json.now c.args.width c.args.height _ _ c.in_ok-state.state c.in-Ok.view c.in-Some.inner.value
    c.in_ok-state.ensures.form c.in_ok-state.ensures.accepted c.in-Some.ensures.stage c.min.ensures c.min-2.ensures c.in-Ok.ensures.ok
    c.in-Some.ensures.unheard c.in-Some.ensures.unpainted
