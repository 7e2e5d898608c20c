use Rattle.std.specs.Prelude.{string_bytes}
use Rattle.scm_open_session.specs.Paint.{PaintsOpenSession}
use Rattle.scm_open_session.proofs.PaintLemmas.{paints}
use Rattle.scm_open_session.proofs.calls.paint_open_session.Goals as goal

pub returns-in-Ok : goal.returns-in-Ok
returns-in-Ok c =
    paints c.args.inner.now c.paint.new.self c.write_update.new.inner (string_bytes c.in-Ok.update) c.as_bytes.result.now c.args.out.now c.write_update.new.out c.write_update.result
    c.in-Ok.ensures c.as_bytes.ensures.value c.write_update.ensures.filled c.write_update.ensures.len

pub returns-in-Err : goal.returns-in-Err
returns-in-Err c = PaintsOpenSession.unpainted c.in-Err.ensures
