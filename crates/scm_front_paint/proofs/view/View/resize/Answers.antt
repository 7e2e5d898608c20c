use Rattle.std.proofs.Common.{◌∙◌, subst}
use Rattle.scm_front_paint.specs.Seen.{Seen}
use Rattle.scm_front_paint.specs.Views.{IsFitted, fits}
use Rattle.scm_front_paint.proofs.ViewLemmas.{kind-test, drawn-by}
use Rattle.scm_front_paint.proofs.view.View.resize.Goals as goal

pub returns-then-is_kind-clause-front : goal.returns-then-is_kind-clause-front
returns-then-is_kind-clause-front c =
    subst (λ (v : Seen). IsFitted c.with_size-pane.result v.front c.self.inside.front) c.self.view_is
    (fits (kind-test c.with_size-pane.result c.self.inside.front _ _ _ _ _ c.beneath.ensures c.beneath-2.ensures c.kind_for-kind.ensures c.kind.ensures c.is_kind.ensures ∙ c.if-is_kind.true))

pub returns-clause-front : goal.returns-clause-front
returns-clause-front c =
    subst (λ (v : Seen). IsFitted c.with_size-pane.result v.front c.resize.new.self) c.self.view_is
    (drawn-by c.with_size-pane.result c.self.inside.front c.resize.new.self _ _ c.beneath.ensures c.kind_for-kind.ensures
    (kind-test c.with_size-pane.result c.self.inside.front _ _ _ _ _ c.beneath.ensures c.beneath-2.ensures c.kind_for-kind.ensures c.kind.ensures c.is_kind.ensures ∙ c.if-is_kind.false)
    c.in_ok-resize.ensures.ok c.in_ok-resize.ensures.query c.in_ok-resize.ensures.kept)
