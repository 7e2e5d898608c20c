use Rattle.std.proofs.Common.{arith, string_bytes}
use Rattle.std.proofs.lemmas.Result.{IfOk-weaker}
use Rattle.scm_front_paint.proofs.BlankLemmas.{begins-blank, begins-known}
use Rattle.scm_front_paint.proofs.status_painter.begin.Goals as goal

pub returns-then-is_known-clause-ok : goal.returns-then-is_known-clause-ok
returns-then-is_known-clause-ok c =
    begins-known c.args.width c.args.height c.args.row.now c.args.is_known (string_bytes c.new.result) c.if-is_known.true c.new.ensures.bytes

pub returns-clause-ok : goal.returns-clause-ok
returns-clause-ok c =
    let low = c.requires in
    IfOk-weaker c.blanking.result _ _ (λ text written.
    begins-blank c.args.width c.args.height c.args.row.now c.take_as_blank.new.self c.args.is_known (string_bytes text) c.if-is_known.false (omega arith)
    c.in_ok-take_as_blank.ensures.blank written)
    c.blanking.ensures.ok
