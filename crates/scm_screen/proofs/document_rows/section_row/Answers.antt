use Rattle.std.proofs.Common.{◌∙◌, ◌-◌, ◌<◌, length, ap, sym, subst, arith, Some, get_or}
use Rattle.scm_document.specs.declared.section_view.SectionView.{SectionView}
use Rattle.scm_document.specs.Rows.{row_on, section_height}
use Rattle.scm_layout.specs.declared.section_rows.SectionRows.{SectionRows}
use Rattle.scm_rows.specs.declared.section_shape.SectionShape.TheVariants.{Mark}
use Rattle.scm_layout.specs.Searches.{SectionsFollow}
use Rattle.scm_layout.proofs.SearchLemmas.{sections-follow}
use Rattle.std.specs.Prelude.{option_map}
use Rattle.scm_strips.specs.Shows.{FileRow}
use Rattle.scm_screen.proofs.FoundLemmas.{no-view, section-here, section-nowhere}
use Rattle.scm_screen.specs.Sections.{view_of}
use Rattle.scm_screen.proofs.document_rows.section_row.Goals as goal

pub on-requires : goal.on-requires
on-requires c =
    let f = c.args.file.now in
    subst SectionsFollow (sym c.requires.rows) (sections-follow c.args.shown.now.expanded c.args.key (length f.sections) f.sections)

pub returns-in_err-index : goal.returns-in_err-index
returns-in_err-index c =
    ap (option_map _) c.from_residual.ensures
    ∙ ap (option_map FileRow) (sym (section-nowhere c.args.shown.now c.args.key c.args.file.now c.args.row c.args.sections.now c.requires.rows (sym c.on.ensures ∙ c.in_err-index.was)))

-- the section's rows, where any will do
abbrev some-rows : SectionRows
some-rows = record { top = 0; end = 0; shape = Mark }

pub row-top-requires : goal.row-top-requires
row-top-requires c =
    (section-here c.args.shown.now c.args.key c.args.file.now c.args.row c.in_ok-index.index c.args.sections.now (no-view c.args.shown.now c.args.key) some-rows c.requires.rows (sym c.on.ensures ∙ c.in_ok-index.was)).long

pub counted_section-counted-requires-clause-within : goal.counted_section-counted-requires-clause-within
counted_section-counted-requires-clause-within c =
    (section-here c.args.shown.now c.args.key c.args.file.now c.args.row c.in_ok-index.index c.args.sections.now (no-view c.args.shown.now c.args.key) some-rows c.requires.rows (sym c.on.ensures ∙ c.in_ok-index.was)).within

pub overflow_sub-row : goal.overflow_sub-row
overflow_sub-row c =
    let r = c.row-top.result in
    let g = section-here c.args.shown.now c.args.key c.args.file.now c.args.row c.in_ok-index.index c.args.sections.now (no-view c.args.shown.now c.args.key) r c.requires.rows (sym c.on.ensures ∙ c.in_ok-index.was) in
    let at = ap (λ (q : SectionRows). q.top) (c.row-top.ensures r) in
    omega (arith, g.low, at)

pub shown_row-requires-clause-row : goal.shown_row-requires-clause-row
shown_row-requires-clause-row c =
    let s = c.args.shown.now in
    let r = c.row-top.result in
    let v = view_of s c.counted_section-counted.result in
    let g = section-here s c.args.key c.args.file.now c.args.row c.in_ok-index.index c.args.sections.now v r c.requires.rows (sym c.on.ensures ∙ c.in_ok-index.was) in
    subst (λ (q : SectionRows). c.args.row - q.top < section_height v v.section.now) (sym (c.row-top.ensures r))
    (subst (λ (w : SectionView). c.args.row - (get_or c.args.sections.now c.in_ok-index.index r).top < section_height w w.section.now) (sym (c.counted_section-counted.ensures.view s v)) g.high)

pub returns : goal.returns
returns c =
    let s = c.args.shown.now in
    let r = c.row-top.result in
    let v = view_of s c.counted_section-counted.result in
    let g = section-here s c.args.key c.args.file.now c.args.row c.in_ok-index.index c.args.sections.now v r c.requires.rows (sym c.on.ensures ∙ c.in_ok-index.was) in
    let view = c.counted_section-counted.ensures.view s v in
    let top = c.row-top.ensures r in
    ap Some c.shown_row.ensures
    ∙ (λ i. Some (FileRow (row_on (view i) (c.args.row - (top i).top))))
    ∙ ap (option_map FileRow) (sym g.shows)
