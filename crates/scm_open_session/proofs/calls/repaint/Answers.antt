use Rattle.std.proofs.Common.{Some, refl, ap}
use Rattle.scm_open_session.specs.Boxes.{box_value}
use Rattle.scm_open_session.proofs.PaintLemmas.{forgets, forgets-closed}
use Rattle.scm_open_session.proofs.calls.repaint.Goals as goal

pub returns-in-Some-clause-forgotten : goal.returns-in-Some-clause-forgotten
returns-in-Some-clause-forgotten c =
    forgets (box_value c.args.session.now) (Some c.repaint.new.self) c.in-Some.inner.value c.deref_mut.result.now c.repaint.new.self
    (ap box_value c.in-Some.is) c.deref_mut.ensures.value refl c.repaint.ensures

pub returns-in-None-clause-forgotten : goal.returns-in-None-clause-forgotten
returns-in-None-clause-forgotten c =
    forgets-closed (box_value c.args.session.now) (box_value c.args.session.now) (ap box_value c.in-None.is) (ap box_value c.in-None.is)
