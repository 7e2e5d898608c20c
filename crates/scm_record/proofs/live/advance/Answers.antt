use Rattle.std.proofs.Common.{refl}
use Rattle.scm_record.specs.Session.{after_frame}
use Rattle.scm_record.proofs.live.advance.Goals as goal

pub returns-clause-shown : goal.returns-clause-shown
returns-clause-shown c = λ kind size. c.in_ok-draw_anew.ensures.shown kind (after_frame c.args.session.now) refl refl size
