use Rattle.std.proofs.Common.{Some, refl, ap}
use Rattle.scm_open_session.specs.Boxes.{box_value}
use Rattle.scm_open_session.proofs.PaintLemmas.{paints-closed, paints-done, paints-refused}
use Rattle.scm_open_session.proofs.calls.paint.Goals as goal

pub returns-in-Ok : goal.returns-in-Ok
returns-in-Ok c =
    paints-done (box_value c.args.session.now) (Some c.paint_open_session.new.inner) c.in-Some.inner.value c.deref_mut.result.now c.paint_open_session.new.inner c.args.out.now c.paint_open_session.new.out c.args.written.now c.in-Ok.len c.paint_open_session.result
    (ap box_value c.in-Some.is) c.deref_mut.ensures.value refl c.in-Ok.is c.paint_open_session.ensures

pub returns-in-Err : goal.returns-in-Err
returns-in-Err c =
    paints-refused (box_value c.args.session.now) (Some c.paint_open_session.new.inner) c.in-Some.inner.value c.deref_mut.result.now c.paint_open_session.new.inner c.args.out.now c.paint_open_session.new.out c.args.written.now c.in-Err.code c.paint_open_session.result
    (ap box_value c.in-Some.is) c.deref_mut.ensures.value refl c.in-Err.is c.paint_open_session.ensures

pub returns-in-None : goal.returns-in-None
returns-in-None c =
    paints-closed (box_value c.args.session.now) (box_value c.args.session.now) c.args.out.now c.args.written.now
    (ap box_value c.in-None.is) (ap box_value c.in-None.is)
