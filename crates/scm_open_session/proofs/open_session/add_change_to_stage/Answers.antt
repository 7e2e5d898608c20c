use Rattle.std.proofs.Common.{ap, refl}
use Rattle.scm_open_session.specs.Building.{is_building}
use Rattle.scm_c_values.specs.Texts.{seen_change}
use Rattle.scm_open_session.specs.declared.open_session.Stage.TheVariants.{Building}
use Rattle.scm_open_session.proofs.BuildLemmas.{builds_change, change_code, not_building_change}
use Rattle.scm_open_session.proofs.open_session.add_change_to_stage.Goals as goal

pub returns-in-Building-clause-added : goal.returns-in-Building-clause-added
returns-in-Building-clause-added c = λ done.
    builds_change (seen_change c.args.change) c.args.stage.now (Building c.add_change.new.builder) c.in-Building.builder c.add_change.new.builder
    c.in-Building.is refl (c.add_change.ensures.added done)

pub returns-in-Building-clause-code : goal.returns-in-Building-clause-code
returns-in-Building-clause-code c =
    change_code (seen_change c.args.change) c.args.stage.now c.in-Building.builder c.add_change.result c.in-Building.is c.add_change.ensures.code

pub returns-in-Waiting-clause-code : goal.returns-in-Waiting-clause-code
returns-in-Waiting-clause-code c = not_building_change (seen_change c.args.change) c.args.stage.now (ap is_building c.in-Waiting.is)

pub returns-in-Editing-clause-code : goal.returns-in-Editing-clause-code
returns-in-Editing-clause-code c = not_building_change (seen_change c.args.change) c.args.stage.now (ap is_building c.in-Editing.is)

pub returns-in-Accepted-clause-code : goal.returns-in-Accepted-clause-code
returns-in-Accepted-clause-code c = not_building_change (seen_change c.args.change) c.args.stage.now (ap is_building c.in-Accepted.is)

pub returns-in-Ended-clause-code : goal.returns-in-Ended-clause-code
returns-in-Ended-clause-code c = not_building_change (seen_change c.args.change) c.args.stage.now (ap is_building c.in-Ended.is)
