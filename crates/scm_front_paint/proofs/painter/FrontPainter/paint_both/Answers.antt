use Rattle.std.proofs.Common.{ℕ, ◌<◌, ◌≤◌, List, ◌++◌, refl, sym, ap, ◌∙◌, subst, string_bytes, arith}
use Rattle.scm_front.specs.declared.layer.Front.{Front}
use Rattle.scm_terminal.specs.StyledCell.{StyledCell}
use Rattle.scm_front_paint.specs.declared.pane.Pane.{Pane}
use Rattle.scm_front_paint.specs.Blank.{PaintsLast}
use Rattle.scm_front_paint.specs.Status.{ShowsLeft, left_of, right_of}
use Rattle.scm_front_paint.proofs.PaintLemmas.{paints-view, rows-below}
use Rattle.scm_front_paint.proofs.StatusEndLemmas.{picture-same, right-same}
use Rattle.scm_front_paint.proofs.painter.FrontPainter.paint_both.Goals as goal

pub paint-requires : goal.paint-requires
paint-requires c =
    let high = subst (λ (p : Pane). p.height ≤ 65535) c.pane-pane.ensures.value c.pane-pane.ensures.high in
    subst (λ (n : ℕ). n < 65535) (sym c.rows_of-height.ensures) (rows-below c.args.view.now c.pane-pane.ensures.seen high)

pub returns-clause-ok : goal.returns-clause-ok
returns-clause-ok c =
    let w = c.width_of-width.result in
    let whole = left_of c.args.view.now.front in
    let shown : ShowsLeft w c.in_ok-left.left whole =
    subst (λ (f : Front). ShowsLeft w c.in_ok-left.left (left_of f)) c.front-2.ensures c.in_ok-left.ensures.ok in
    let row = picture-same w w c.rows_of-height.result c.in_ok-left.left whole c.as_str.result.now (omega arith) shown in
    paints-view c.args.self.now c.keep_size.new.self _ c.args.view.now c.args.accept.now _ (string_bytes c.in_ok-text.text) (string_bytes c.in_ok-rows.rows)
    c.beneath-session.result.now w c.rows_of-height.result c.offset-x.result c.keep_size.new.self.theme c.keep_size.new.self.syntax c.anchor.result
    c.as_slice.result.now c.in_ok-words.words.items c.as_slice-2.result.now c.in_ok-labels.labels.items whole c.as_str.result.now
    (c.beneath-session.ensures ∙ ap (λ (f : Front). f.beneath) c.front.ensures) c.width_of-width.ensures c.rows_of-height.ensures
    c.offset-x.ensures c.keep_size.ensures.theme c.keep_size.ensures.syntax (c.anchor.ensures ∙ ap (λ (f : Front). f.kept.anchor) c.front-4.ensures) c.as_slice.ensures.value c.in_ok-words.ensures.ok
    c.as_slice-2.ensures.value c.in_ok-labels.ensures.ok refl
    (c.as_str.ensures.value ∙ c.in_ok-right.ensures.ok
    ∙ ap (λ (f : Front). right_of f w c.in_ok-left.left c.offset-x.result c.args.accept.now) c.front-3.ensures
    ∙ right-same w c.in_ok-left.left whole c.args.view.now.front w c.offset-x.result c.args.accept.now shown)
    c.keep_size.ensures.known
    (subst (λ (picture : List (List StyledCell)). PaintsLast w c.keep_size.new.self.status picture (string_bytes c.in_ok-text.text)) row c.in_ok-text.ensures.ok)
    c.in_ok-rows.ensures.ok
    (c.in_ok-push_str.ensures.bytes ∙ ap (λ (t : List ℕ). string_bytes c.in_ok-text.text ++ t) c.as_str-2.ensures.value)
    (c.in_ok-text.ensures.painted ∙ row) c.in_ok-rows.ensures.painted c.keep_size.ensures.size refl c.keep_size.ensures.labels c.keep_size.ensures.syntax
