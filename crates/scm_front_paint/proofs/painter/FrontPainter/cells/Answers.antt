use Rattle.std.proofs.Common.{ℕ, ◌+◌, ◌<◌, ◌≤◌, List, refl, sym, ap, ◌∙◌, subst, arith}
use Rattle.scm_front.specs.declared.layer.Front.{Front}
use Rattle.scm_front_paint.specs.declared.pane.Pane.{Pane}
use Rattle.scm_cells.specs.Screen.{Screen}
use Rattle.scm_terminal.specs.StyledCell.{StyledCell, styled_row}
use Rattle.scm_shown_cells.specs.Cells.{Adds}
use Rattle.scm_front_paint.specs.Status.{ShowsLeft, left_of, right_of, status_style}
use Rattle.scm_front_paint.proofs.PaintLemmas.{rows-below}
use Rattle.scm_front_paint.proofs.ViewCellLemmas.{view-cells}
use Rattle.scm_front_paint.proofs.StatusEndLemmas.{right-same, screen-same}
use Rattle.scm_front_paint.proofs.painter.FrontPainter.cells.Goals as goal

pub push_status-requires : goal.push_status-requires
push_status-requires c =
    let high = subst (λ (p : Pane). p.height ≤ 65535) c.pane-pane.ensures.value c.pane-pane.ensures.high in
    subst (λ (n : ℕ). n < 65535) (sym c.rows_of-height.ensures) (rows-below c.args.view.now c.pane-pane.ensures.seen high)

pub returns-clause-ok : goal.returns-clause-ok
returns-clause-ok c =
    let w = c.width_of-width.result in
    let h = c.rows_of-height.result in
    let whole = left_of c.args.view.now.front in
    let shown : ShowsLeft w c.in_ok-left.left whole =
    subst (λ (f : Front). ShowsLeft w c.in_ok-left.left (left_of f)) c.front-2.ensures c.in_ok-left.ensures.ok in
    let row = ap (λ (screen : Screen). styled_row (status_style h) screen h) (screen-same w w h c.in_ok-left.left whole c.as_str.result.now (omega arith) shown) in
    view-cells c.args.self.now c.args.view.now c.args.accept.now c.beneath-session.result.now w h c.offset-x.result c.args.self.now.theme c.args.self.now.syntax c.anchor.result
    c.as_slice.result.now c.in_ok-words.words.items c.as_slice-2.result.now c.in_ok-labels.labels.items whole c.as_str.result.now
    c.new-list.result c.push_session.new.list (record { list = c.push_status.new.list; columns = w; rows = h + 1 }) c.new-list.ensures.cells c.new-list.ensures.text c.in_ok-push_session.ensures.ok
    (subst (λ (cells : List StyledCell). Adds cells c.push_session.new.list c.push_status.new.list) row c.in_ok-push_status.ensures.ok)
    refl refl (c.beneath-session.ensures ∙ ap (λ (f : Front). f.beneath) c.front.ensures) c.width_of-width.ensures c.rows_of-height.ensures c.offset-x.ensures refl refl (c.anchor.ensures ∙ ap (λ (f : Front). f.kept.anchor) c.front-4.ensures)
    c.as_slice.ensures.value c.in_ok-words.ensures.ok c.as_slice-2.ensures.value c.in_ok-labels.ensures.ok refl
    (c.as_str.ensures.value ∙ c.in_ok-right.ensures.ok
    ∙ ap (λ (f : Front). right_of f w c.in_ok-left.left c.offset-x.result c.args.accept.now) c.front-3.ensures
    ∙ right-same w c.in_ok-left.left whole c.args.view.now.front w c.offset-x.result c.args.accept.now shown)
