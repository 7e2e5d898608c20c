use Rattle.std.proofs.Common.{refl}
use Rattle.scm_open_session.proofs.LayerCallLemmas.{sets_keys}
use Rattle.scm_open_session.proofs.running.set_keys.Goals as goal

pub returns-in-Layered-clause-set : goal.returns-in-Layered-clause-set
returns-in-Layered-clause-set c = λ done.
    sets_keys c.args.keys c.args.session.now _ c.in-Layered.view c.set_keys.new.self c.in-Layered.is refl c.set_keys.ensures.front c.set_keys.ensures.pane
