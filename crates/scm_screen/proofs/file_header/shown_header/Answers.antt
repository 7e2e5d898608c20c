use Rattle.std.proofs.Common.{◌≡◌, ◌∙◌, ap}
use Rattle.scm_types.specs.declared.keys.SelectionKey.TheVariants as keys
use Rattle.scm_document.specs.Rows.{Heading, HeaderRow, lent_text}
use Rattle.scm_document.specs.Texts.{path_text}
use Rattle.scm_strips.specs.Shows.{FileRow}
use Rattle.scm_strips.specs.ShownRows.{heading}
use Rattle.scm_view.specs.ViewState.{expand_box_of, toggle_box_of}
use Rattle.scm_screen.specs.Headers.{counted_heading}
use Rattle.scm_screen.proofs.HeaderLemmas.{heading-counted}
use Rattle.scm_screen.proofs.file_header.shown_header.Goals as goal

pub returns-clause-view : goal.returns-clause-view
returns-clause-view c counts folds =
    let s = c.args.shown.now in
    let k = c.args.key in
    let toggle = c.toggle_box.ensures ∙ ap (λ m. toggle_box_of s (keys.File k) m) c.tristate_by-mark.ensures in
    let fold = c.expand_box.ensures ∙ ap (λ m. expand_box_of s (keys.File k) m) c.counted_fold-fold.ensures in
    let made : ◌≡◌ {A = Heading}
    (heading c.toggle_box.result c.expand_box.result (path_text (lent_text c.old_path.result) c.as_str.result.now))
    (counted_heading s k c.args.counts.now c.args.folded c.args.file.now) =
    λ i. heading (toggle i) (fold i) (path_text (c.old_path.ensures i) (c.as_str.ensures i)) in
    ap (λ (h : Heading). FileRow (HeaderRow k h)) (made ∙ heading-counted s k c.args.file.now c.args.counts.now c.args.folded counts folds)
