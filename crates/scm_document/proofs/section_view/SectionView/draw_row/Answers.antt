use Rattle.std.proofs.Common.{sym, ap, ◌∙◌}
use Rattle.std.proofs.lemmas.Int.{to_z-of_z}
use Rattle.scm_document.specs.Rows.{changed_row, numbered_row}
use Rattle.scm_document.proofs.KindLemmas.{context-line, context-gap, changed-line, changed-header, mode-row, binary-row}
use Rattle.scm_document.proofs.section_view.SectionView.draw_row.Goals as goal

pub draw_line_row-requires : goal.draw_line_row-requires
draw_line_row-requires c =
    let v = c.args.self.now in
    let item = rw c.as_slice.ensures at c.index-as_slice-index.is in
    let line = context-line v c.index-as_slice-index.result _ _ _ c.in-Unchanged.is c.requires.row (sym c.line_on-line.ensures ∙ c.in-Some.is) in
    let row = line ∙ ap (numbered_row v c.in-Some.index) (sym item ∙ sym c.as_str-text.ensures) ∙ sym c.context_view.ensures in
    simp (to_z-of_z, c.ranges.x, c.ranges.y) (rw row at c.requires.picture)

pub returns-in-Some : goal.returns-in-Some
returns-in-Some c =
    let v = c.args.self.now in
    let item = rw c.as_slice.ensures at c.index-as_slice-index.is in
    let line = context-line v c.index-as_slice-index.result _ _ _ c.in-Unchanged.is c.requires.row (sym c.line_on-line.ensures ∙ c.in-Some.is) in
    let row = line ∙ ap (numbered_row v c.in-Some.index) (sym item ∙ sym c.as_str-text.ensures) ∙ sym c.context_view.ensures in
    rw row (simp (to_z-of_z, c.ranges.x, c.ranges.y) at c.draw_line_row.ensures)

pub draw_gap-requires : goal.draw_gap-requires
draw_gap-requires c =
    let row = context-gap c.args.self.now _ _ c.in-Unchanged.is c.requires.row (sym c.line_on-line.ensures ∙ c.in-None.is) in
    rw c.len.ensures (simp (to_z-of_z, c.ranges.x, c.ranges.y) (rw row at c.requires.picture))

pub returns-in-None : goal.returns-in-None
returns-in-None c =
    let row = context-gap c.args.self.now _ _ c.in-Unchanged.is c.requires.row (sym c.line_on-line.ensures ∙ c.in-None.is) in
    rw row (rw c.len.ensures at (simp (to_z-of_z, c.ranges.x, c.ranges.y) at c.draw_gap.ensures))

pub draw_line_row-requires-in-Some-line : goal.draw_line_row-requires-in-Some-line
draw_line_row-requires-in-Some-line c =
    let v = c.args.self.now in
    let item = rw c.as_slice-in-Some-line.ensures at c.index-as_slice-index-in-Some-line.is in
    let line = changed-line v c.index-as_slice-index-in-Some-line.result _ _ _ c.in-Changed.is c.requires.row (sym c.line_on-line.ensures ∙ c.in-Some-line.is) in
    let row = line ∙ ap (changed_row v c.in-Some-line.index) (sym item) ∙ sym c.changed_view.ensures in
    simp (to_z-of_z, c.ranges.x, c.ranges.y) (rw row at c.requires.picture)

pub returns-in-Some-line : goal.returns-in-Some-line
returns-in-Some-line c =
    let v = c.args.self.now in
    let item = rw c.as_slice-in-Some-line.ensures at c.index-as_slice-index-in-Some-line.is in
    let line = changed-line v c.index-as_slice-index-in-Some-line.result _ _ _ c.in-Changed.is c.requires.row (sym c.line_on-line.ensures ∙ c.in-Some-line.is) in
    let row = line ∙ ap (changed_row v c.in-Some-line.index) (sym item) ∙ sym c.changed_view.ensures in
    rw row (simp (to_z-of_z, c.ranges.x, c.ranges.y) at c.draw_line_row-in-Some-line.ensures)

pub draw_header-requires : goal.draw_header-requires
draw_header-requires c =
    let row = changed-header c.args.self.now _ _ c.in-Changed.is c.requires.row (sym c.line_on-line.ensures ∙ c.in-None-line.is) in
    simp (to_z-of_z, c.ranges.x, c.ranges.y) (rw row at c.requires.picture)

pub returns-in-None-line : goal.returns-in-None-line
returns-in-None-line c =
    let row = changed-header c.args.self.now _ _ c.in-Changed.is c.requires.row (sym c.line_on-line.ensures ∙ c.in-None-line.is) in
    rw row (simp (to_z-of_z, c.ranges.x, c.ranges.y) at c.draw_header.ensures)

pub draw_mark-requires : goal.draw_mark-requires
draw_mark-requires c =
    let row = mode-row c.args.self.now _ _ _ c.in-FileMode.is c.requires.row in
    rw (c.as_str.ensures.value, c.in_ok-text-in-FileMode.ensures.ok) (simp (to_z-of_z, c.ranges.x, c.ranges.y) (rw row at c.requires.picture))

pub returns-in_ok-text-in-FileMode : goal.returns-in_ok-text-in-FileMode
returns-in_ok-text-in-FileMode c =
    let row = mode-row c.args.self.now _ _ _ c.in-FileMode.is c.requires.row in
    rw row (rw (c.as_str.ensures.value, c.in_ok-text-in-FileMode.ensures.ok) at (simp (to_z-of_z, c.ranges.x, c.ranges.y) at c.draw_mark.ensures))

pub draw_mark-requires-in-Binary : goal.draw_mark-requires-in-Binary
draw_mark-requires-in-Binary c =
    let row = binary-row c.args.self.now _ _ _ _ c.in-Binary.is c.requires.row in
    rw (c.as_str-in-Binary.ensures.value, c.in_ok-text-in-Binary.ensures.ok) (simp (to_z-of_z, c.ranges.x, c.ranges.y) (rw row at c.requires.picture))

pub returns-in_ok-text-in-Binary : goal.returns-in_ok-text-in-Binary
returns-in_ok-text-in-Binary c =
    let row = binary-row c.args.self.now _ _ _ _ c.in-Binary.is c.requires.row in
    rw row (rw (c.as_str-in-Binary.ensures.value, c.in_ok-text-in-Binary.ensures.ok) at (simp (to_z-of_z, c.ranges.x, c.ranges.y) at c.draw_mark-in-Binary.ensures))
