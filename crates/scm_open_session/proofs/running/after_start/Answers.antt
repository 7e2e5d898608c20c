use Rattle.scm_open_session.proofs.LayerCallLemmas.{sets}
use Rattle.scm_open_session.proofs.running.after_start.Goals as goal

pub returns-in-Layered-clause-set : goal.returns-in-Layered-clause-set
returns-in-Layered-clause-set c = λ done.
    sets c.args.folds c.args.first c.in-Layered.view c.set_start.result c.args.session c.stage_of_view.result
    c.in-Layered.is c.stage_of_view.ensures c.set_start.ensures.ok c.set_start.ensures.err
