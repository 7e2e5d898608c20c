use Rattle.std.proofs.Common.{refl, ap}
use Rattle.scm_open_session.specs.declared.open_session.Stage.TheVariants.{Waiting}
use Rattle.scm_open_session.specs.Headings.{NamesAt}
use Rattle.scm_open_session.specs.LayerCalls.{is_view}
use Rattle.scm_open_session.proofs.HeadingLemmas.{names-at}
use Rattle.scm_open_session.proofs.headings.name_at.Goals as goal

pub returns-in-Waiting : goal.returns-in-Waiting
returns-in-Waiting c =
    names-at c.args.painters.now c.name_running.new.painters c.args.stage.now (Waiting c.in-Waiting.session) c.name_running.result
    c.in-Waiting.is c.name_running.ensures

pub returns-in-Building : goal.returns-in-Building
returns-in-Building c = NamesAt.no_view (ap is_view c.in-Building.is) refl

pub returns-in-Editing : goal.returns-in-Editing
returns-in-Editing c = NamesAt.no_view (ap is_view c.in-Editing.is) refl

pub returns-in-Accepted : goal.returns-in-Accepted
returns-in-Accepted c = NamesAt.no_view (ap is_view c.in-Accepted.is) refl

pub returns-in-Ended : goal.returns-in-Ended
returns-in-Ended c = NamesAt.no_view (ap is_view c.in-Ended.is) refl
