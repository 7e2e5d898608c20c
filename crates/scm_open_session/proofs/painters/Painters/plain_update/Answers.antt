use Rattle.std.proofs.Common.{refl}
use Rattle.std.specs.Prelude.{string_bytes}
use Rattle.scm_open_session.proofs.PaintLemmas.{plain_shown}
use Rattle.scm_open_session.proofs.painters.Painters.plain_update.Goals as goal

pub returns-clause-shown : goal.returns-clause-shown
returns-clause-shown c =
    plain_shown string_bytes c.args.session.now c.args.self.now _ c.update_of_session.result
    c.update_of_session.ensures.shown c.update_of_session.ensures.painted refl refl refl
