use Rattle.std.proofs.Common.{refl}
use Rattle.scm_open_session.proofs.BuildLemmas.{builds_not}
use Rattle.scm_open_session.proofs.LayerCallLemmas.{view_starts_at, view_stays}
use Rattle.scm_open_session.proofs.layered.begun_view.Goals as goal

pub returns-in-Building : goal.returns-in-Building
returns-in-Building c =
    view_starts_at c.args.width c.args.height c.args.stage c.start_view.result.0 c.in-Building.builder c.start_view.result.0 c.start_view.result.1 c.in-Building.is refl c.start_view.ensures

pub returns-in_default : goal.returns-in_default
returns-in_default c = view_stays c.args.width c.args.height c.args.stage c.args.stage refl (builds_not c.args.stage c.in_default.not-Building)
