use Rattle.std.proofs.Common.{arith}
use Rattle.scm_open_session.proofs.PaintLemmas.{fits, too_long}
use Rattle.scm_open_session.proofs.calls.write_update.Goals as goal

pub returns-then-update-out-clause-filled : goal.returns-then-update-out-clause-filled
returns-then-update-out-clause-filled c =
    fits c.args.inner.now c.args.update.now c.args.out.now c.write_text.new.out (omega (arith, c.if-update-out.true)) c.write_text.ensures.written

pub returns-else-update-out-clause-filled : goal.returns-else-update-out-clause-filled
returns-else-update-out-clause-filled c =
    too_long c.args.inner.now c.repaint.new.self c.args.update.now c.args.out.now (omega (arith, c.if-update-out.false)) c.repaint.ensures
