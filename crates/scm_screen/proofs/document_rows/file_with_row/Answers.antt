use Rattle.std.proofs.Common.{◌∙◌, ◌≤◌, length, ap, sym, subst, arith, List, get_or}
use Rattle.std.proofs.lemmas.Bool.Decides.{nat_tests}
use Rattle.scm_types.specs.declared.file.File.{File}
use Rattle.scm_types.specs.Limits.{max_items, state_size}
use Rattle.scm_layout.specs.Layouts.{files_top}
use Rattle.scm_layout.specs.Rows.{each_file_rows}
use Rattle.scm_layout.specs.Searches.{FilesFollow}
use Rattle.scm_layout.proofs.SearchLemmas.{files-follow}
use Rattle.scm_view.specs.ViewState.{ViewState}
use Rattle.scm_screen.proofs.FoundLemmas.{has-row, layout-rows, no-row, state-within}
use Rattle.scm_screen.proofs.document_rows.file_with_row.Goals as goal

pub file_on-requires : goal.file_on-requires
file_on-requires c =
    let s = c.args.shown.now in
    subst FilesFollow (sym (layout-rows s c.args.layout.now c.as_slice-rows.result.now c.requires.layout c.as_slice-rows.ensures))
    (files-follow (files_top s.state.commits) (each_file_rows s.expanded 0 0 s.state.files))

pub returns-in_err-index-clause-none : goal.returns-in_err-index-clause-none
returns-in_err-index-clause-none c none =
    no-row c.args.shown.now c.args.row c.args.layout.now c.as_slice-rows.result.now c.requires.layout c.as_slice-rows.ensures (sym c.file_on.ensures ∙ c.in_err-index.was)

pub bounds-files-index : goal.bounds-files-index
bounds-files-index c =
    let in_all = state-within c.args.shown.now c.args.row c.in_ok-index.index c.args.layout.now c.as_slice-rows.result.now c.as_slice-counts.result.now c.requires.layout c.as_slice-rows.ensures c.as_slice-counts.ensures
    (sym c.file_on.ensures ∙ c.in_ok-index.was) in
    let same = ap (λ (fs : List File). length fs) (c.as_slice-files.ensures ∙ ap (λ (v : ViewState). v.state.files) c.shown.view_is) in
    omega (arith, in_all.0, same)

pub bounds-counts-index : goal.bounds-counts-index
bounds-counts-index c =
    (state-within c.args.shown.now c.args.row c.in_ok-index.index c.args.layout.now c.as_slice-rows.result.now c.as_slice-counts.result.now c.requires.layout c.as_slice-rows.ensures c.as_slice-counts.ensures
    (sym c.file_on.ensures ∙ c.in_ok-index.was)).1

pub bounds-rows-index : goal.bounds-rows-index
bounds-rows-index c =
    (state-within c.args.shown.now c.args.row c.in_ok-index.index c.args.layout.now c.as_slice-rows.result.now c.as_slice-counts.result.now c.requires.layout c.as_slice-rows.ensures c.as_slice-counts.ensures
    (sym c.file_on.ensures ∙ c.in_ok-index.was)).2

pub returns-clause-some : goal.returns-clause-some
returns-clause-some c =
    let s = c.args.shown.now in
    let size : state_size s.state ≤ max_items = grind (arith, nat_tests, c.requires.accepted) in
    has-row s c.args.row c.in_ok-index.index _ c.args.layout.now c.as_slice-rows.result.now c.as_slice-counts.result.now c.requires.layout c.as_slice-rows.ensures c.as_slice-counts.ensures size
    (sym c.file_on.ensures ∙ c.in_ok-index.was) c.file_key.ensures
    (c.index-files-index.is ∙ ap (λ (fs : List File). get_or fs c.in_ok-index.index c.index-files-index.result) (c.as_slice-files.ensures ∙ ap (λ (v : ViewState). v.state.files) c.shown.view_is))
    c.index-counts-index.is c.index-rows-index.is

pub offset_bounds-files-index : goal.offset_bounds-files-index
offset_bounds-files-index c = omega (arith, bounds-files-index c, c.as_slice-files.type_inv)

pub offset_bounds-counts-index : goal.offset_bounds-counts-index
offset_bounds-counts-index c = omega (arith, bounds-counts-index c, c.as_slice-counts.type_inv)

pub offset_bounds-rows-index : goal.offset_bounds-rows-index
offset_bounds-rows-index c = omega (arith, bounds-rows-index c, c.as_slice-rows.type_inv)
