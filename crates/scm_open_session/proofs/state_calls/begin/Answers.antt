use Rattle.std.proofs.Common.{Some, refl, ap}
use Rattle.scm_c_values.specs.Screens.{screen_of}
use Rattle.scm_open_session.specs.Boxes.{box_value}
use Rattle.scm_open_session.proofs.BuildLemmas.{closed_starts, session_starts}
use Rattle.scm_open_session.proofs.state_calls.begin.Goals as goal

pub returns-in-Some : goal.returns-in-Some
returns-in-Some c =
    session_starts (screen_of c.args.width c.args.height) (box_value c.args.session.now) (Some c.begin.new.self) c.in-Some.inner.value c.deref_mut.result.now c.begin.new.self c.begin.result
    (ap box_value c.in-Some.is) c.deref_mut.ensures.value refl c.begin.ensures.starts c.begin.ensures.decoder c.begin.ensures.painter

pub returns-in-None : goal.returns-in-None
returns-in-None c =
    closed_starts (screen_of c.args.width c.args.height) (box_value c.args.session.now) (box_value c.args.session.now)
    (ap box_value c.in-None.is) (ap box_value c.in-None.is)
