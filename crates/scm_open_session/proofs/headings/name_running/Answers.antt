use Rattle.std.proofs.Common.{refl, ap}
use Rattle.scm_open_session.specs.Headings.{NamesAt}
use Rattle.scm_open_session.specs.Running.{is_layered}
use Rattle.scm_open_session.proofs.HeadingLemmas.{names-view}
use Rattle.scm_open_session.proofs.headings.name_running.Goals as goal

pub returns-in-Plain : goal.returns-in-Plain
returns-in-Plain c = NamesAt.no_view (ap is_layered c.in-Plain.is) refl

pub returns-in-Layered : goal.returns-in-Layered
returns-in-Layered c =
    names-view c.args.painters.now c.name_sections.new.self c.args.session.now c.in-Layered.view c.in-Layered.view c.name_sections.result c.resize_code.result
    c.in-Layered.is refl c.resize_code.ensures c.name_sections.ensures.done c.name_sections.ensures.some
