use Rattle.std.proofs.Common.{Some, refl, ap}
use Rattle.scm_open_session.specs.Boxes.{box_value}
use Rattle.scm_open_session.proofs.HeadingLemmas.{names-closed, names-session}
use Rattle.scm_open_session.proofs.headings.name_sections.Goals as goal

pub returns-in-Some : goal.returns-in-Some
returns-in-Some c =
    names-session (box_value c.args.session.now) (Some c.name_sections.new.self) c.in-Some.inner.value c.deref_mut.result.now c.name_sections.new.self c.name_sections.result
    (ap box_value c.in-Some.is) c.deref_mut.ensures.value refl c.name_sections.ensures.named c.name_sections.ensures.stage c.name_sections.ensures.decoder

pub returns-in-None : goal.returns-in-None
returns-in-None c =
    names-closed (box_value c.args.session.now) (box_value c.args.session.now) (ap box_value c.in-None.is) (ap box_value c.in-None.is)
