use Rattle.std.proofs.Common.{◌∙◌}
use Rattle.scm_front_paint.specs.Views.{fits}
use Rattle.scm_front_paint.proofs.ViewLemmas.{kind-test, drawn-by}
use Rattle.scm_front_paint.proofs.view.fitted.Goals as goal

pub returns-then-is_kind-clause-ok : goal.returns-then-is_kind-clause-ok
returns-then-is_kind-clause-ok c =
    fits (kind-test c.args.pane c.args.front _ _ _ _ _ c.beneath.ensures c.beneath-2.ensures c.kind_for-kind.ensures c.kind.ensures c.is_kind.ensures ∙ c.if-is_kind.true)

pub returns-clause-ok : goal.returns-clause-ok
returns-clause-ok c =
    drawn-by c.args.pane c.args.front c.resize.new.self _ _ c.beneath.ensures c.kind_for-kind.ensures
    (kind-test c.args.pane c.args.front _ _ _ _ _ c.beneath.ensures c.beneath-2.ensures c.kind_for-kind.ensures c.kind.ensures c.is_kind.ensures ∙ c.if-is_kind.false)
    c.in_ok-resize.ensures.ok c.in_ok-resize.ensures.query c.in_ok-resize.ensures.kept
