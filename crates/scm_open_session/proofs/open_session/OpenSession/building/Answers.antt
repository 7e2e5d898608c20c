use Rattle.std.proofs.Common.{ap}
use Rattle.scm_open_session.specs.declared.open_session.Stage.TheVariants.{Building}
use Rattle.scm_open_session.proofs.BuildLemmas.{begins_state}
use Rattle.scm_open_session.proofs.open_session.OpenSession.building.Goals as goal

pub returns : goal.returns
returns c =
    begins_state c.args.is_read_only (Building c.new.result) c.at_stage.result (ap Building c.new.ensures) c.at_stage.ensures.stage c.at_stage.ensures.unheard c.at_stage.ensures.unpainted
