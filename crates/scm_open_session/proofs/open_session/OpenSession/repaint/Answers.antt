use Rattle.std.proofs.Common.{refl}
use Rattle.scm_open_session.proofs.open_session.OpenSession.repaint.Goals as goal

pub returns : goal.returns
returns c = record { painter = c.forget.ensures; stage = refl; decoder = refl }
