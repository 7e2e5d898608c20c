use Rattle.std.proofs.Common.{◌≡◌, ap, ◌∙◌}
use Rattle.std.specs.List.{list_all}
use Rattle.scm_types.specs.Keys.{has_key}
use Rattle.scm_types.specs.declared.keys.SelectionKey.TheVariants as keys
use Rattle.scm_types.specs.Marks.{file_marks, tristate_of}
use Rattle.scm_document.specs.declared.file_view.FileView.{FileView}
use Rattle.scm_view.specs.ViewState.{expand_box_of, file_fold, file_view_of, section_views_of, toggle_box_of, totals_of}
use Rattle.scm_view_state.specs.Folds.{fold_of, has_no_fold}
use Rattle.scm_view_state.specs.Views.{lent_sections}
use Rattle.scm_view_state.proofs.ViewLemmas.{folds-are}
use Rattle.scm_view_state.proofs.file_views.file_view.Goals as goal

pub returns : goal.returns
returns c =
    let s = c.args.view_state.now in
    let k = c.args.key in
    let sections = c.args.file.now.sections in
    let all = section_views_of s (totals_of sections) k 0 0 0 sections in
    let views : lent_sections c.in_ok-section_views.section_views ≡ all = c.in_ok-section_views.ensures in
    let fold : c.file_fold-fold.result ≡ file_fold s k c.args.file.now =
    c.file_fold-fold.ensures ∙ ap (fold_of (has_key s.expanded (keys.File k))) (ap (list_all has_no_fold) c.as_slice.ensures ∙ folds-are s (totals_of sections) k sections c.in_ok-section_views.section_views views) in
    let mark : c.tristate.result ≡ tristate_of (file_marks c.args.file.now) = c.tristate.ensures in
    let same : ◌≡◌ {A = FileView}
    (record (file_view_of s k c.args.file.now) {
      toggle_box = toggle_box_of s (keys.File k) c.tristate.result;
      expand_box = expand_box_of s (keys.File k) c.file_fold-fold.result;
      section_views = lent_sections c.in_ok-section_views.section_views;
    })
    (file_view_of s k c.args.file.now) =
    λ i. record (file_view_of s k c.args.file.now) { toggle_box = toggle_box_of s (keys.File k) (mark i); expand_box = expand_box_of s (keys.File k) (fold i); section_views = views i } in
    c.view_with.ensures ∙ same
