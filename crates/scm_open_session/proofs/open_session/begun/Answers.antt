use Rattle.std.proofs.Common.{refl}
use Rattle.scm_open_session.proofs.BuildLemmas.{builds_not, starts_at, stays}
use Rattle.scm_open_session.proofs.open_session.begun.Goals as goal

pub returns-in-Building : goal.returns-in-Building
returns-in-Building c =
    starts_at c.args.kind c.args.stage c.start.result.0 c.in-Building.builder c.start.result.0 c.start.result.1 c.in-Building.is refl c.start.ensures

pub returns-in_default : goal.returns-in_default
returns-in_default c = stays c.args.kind c.args.stage c.args.stage refl (builds_not c.args.stage c.in_default.not-Building)
