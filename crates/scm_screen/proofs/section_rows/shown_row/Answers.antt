use Rattle.std.proofs.Common.{sym, ap, ◌∙◌}
use Rattle.scm_document.specs.Rows.{changed_row, gap_row, numbered_row}
use Rattle.scm_strips.specs.Shows.{FileRow}
use Rattle.scm_screen.specs.Sections.{view_of}
use Rattle.scm_screen.proofs.KindLemmas.{context-line, context-gap, changed-line, changed-header, mode-row, binary-row}
use Rattle.scm_screen.proofs.section_rows.shown_row.Goals as goal

pub returns-in-Some : goal.returns-in-Some
returns-in-Some c =
    let v = view_of c.args.shown.now c.args.counted in
    let item = rw c.as_slice.ensures at c.index-as_slice-index.is in
    let line = context-line v c.index-as_slice-index.result _ _ _ c.in-Unchanged.is c.requires.row (sym c.line_on-line.ensures ∙ c.in-Some.is) in
    c.context_line.ensures ∙ ap FileRow (sym (line ∙ ap (numbered_row v c.in-Some.index) (sym item ∙ sym c.as_str.ensures)))

pub returns-in-None : goal.returns-in-None
returns-in-None c =
    let v = view_of c.args.shown.now c.args.counted in
    let row = context-gap v _ _ c.in-Unchanged.is c.requires.row (sym c.line_on-line.ensures ∙ c.in-None.is) in
    c.gap.ensures ∙ ap (λ n. FileRow (gap_row v n)) c.len.ensures ∙ ap FileRow (sym row)

pub returns-in-Some-line : goal.returns-in-Some-line
returns-in-Some-line c =
    let v = view_of c.args.shown.now c.args.counted in
    let item = rw c.as_slice-in-Some-line.ensures at c.index-as_slice-index-in-Some-line.is in
    let line = changed-line v c.index-as_slice-index-in-Some-line.result _ _ _ c.in-Changed.is c.requires.row (sym c.line_on-line.ensures ∙ c.in-Some-line.is) in
    c.changed_line.ensures ∙ ap FileRow (sym (line ∙ ap (changed_row v c.in-Some-line.index) (sym item)))

pub returns-in-None-line : goal.returns-in-None-line
returns-in-None-line c =
    let v = view_of c.args.shown.now c.args.counted in
    let row = changed-header v _ _ c.in-Changed.is c.requires.row (sym c.line_on-line.ensures ∙ c.in-None-line.is) in
    c.header.ensures ∙ ap FileRow (sym row)

pub returns-in-FileMode : goal.returns-in-FileMode
returns-in-FileMode c = c.mode_row.ensures ∙ ap FileRow (sym (mode-row (view_of c.args.shown.now c.args.counted) _ _ _ c.in-FileMode.is c.requires.row))

pub returns-in-Binary : goal.returns-in-Binary
returns-in-Binary c = c.binary_row.ensures ∙ ap FileRow (sym (binary-row (view_of c.args.shown.now c.args.counted) _ _ _ _ c.in-Binary.is c.requires.row))
