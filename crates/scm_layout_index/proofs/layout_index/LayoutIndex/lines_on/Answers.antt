use Rattle.std.proofs.Common.{◌≡◌, ℕ, ◌+◌, ◌-◌, Some, subst, sym, ◌∙◌, arith}
use Rattle.std.proofs.lemmas.Option.{same_Some}
use Rattle.scm_layout.specs.declared.state_rows.StateRows.{StateRows}
use Rattle.scm_widgets.specs.OverlayRects.{have_row}
use Rattle.scm_layout_index.specs.declared.line_rows.LineRows.{LineRows}
use Rattle.scm_layout_index.specs.OwnerRuns.{IsRun}
use Rattle.scm_layout_index.specs.RowPieces.{RowsFit}
use Rattle.scm_layout_index.specs.ShownLines.{line_in}
use Rattle.scm_layout_index.proofs.LineRowLemmas.{end-most, end-past, few-lines, line-down}
use Rattle.scm_layout_index.proofs.ShownLineLemmas.{line-in, shown-line}
use Rattle.scm_layout_index.proofs.layout_index.LayoutIndex.lines_on.Goals as goal

pub rows_end-end-requires-clause-row : goal.rows_end-end-requires-clause-row
rows_end-end-requires-clause-row c =
    let end = c.end_of_pieces-last.ensures in
    let past = end-past c.args.self.now c.args.owners.now c.in_ok-first.first c.requires (sym (line-in c.args.self.now c.args.owners.now c.requires) ∙ sym c.line.ensures ∙ c.in_ok-first.was) in
    omega arith

pub rows_end-end-requires-clause-end : goal.rows_end-end-requires-clause-end
rows_end-end-requires-clause-end c =
    let i = c.args.self.now in
    let r = c.args.owners.now in
    let fit = subst (λ (rows : StateRows). RowsFit rows.files) c.layout_rows-rows.ensures.rows c.layout_rows-rows.ensures.fit in
    let end = c.end_of_pieces-last.ensures in
    let near = end-most i r c.in_ok-first.first c.requires fit (sym (line-in c.args.self.now c.args.owners.now c.requires) ∙ sym c.line.ensures ∙ c.in_ok-first.was) in
    omega arith

pub returns-clause-low : goal.returns-clause-low
returns-clause-low c =
    let i = c.args.self.now in
    let r = c.args.owners.now in
    let line : line_in i r.row ≡ Some c.in_ok-first.first = sym (line-in c.args.self.now c.args.owners.now c.requires) ∙ sym c.line.ensures ∙ c.in_ok-first.was in
    let fit = subst (λ (rows : StateRows). RowsFit rows.files) c.layout_rows-rows.ensures.rows c.layout_rows-rows.ensures.fit in
    let end = c.end_of_pieces-last.ensures in
    let most = c.rows_end-end.ensures.most in
    let past = c.rows_end-end.ensures.past in
    let near = end-most i r c.in_ok-first.first c.requires fit line in
    let few = few-lines i r c.in_ok-first.first c.rows_end-end.result c.requires line (omega arith) past in
    omega arith

pub returns-clause-owner : goal.returns-clause-owner
returns-clause-owner c = λ w h s shown is lines e n within x inside.
    let i = c.args.self.now in
    let r = c.args.owners.now in
    let line : line_in i r.row ≡ Some c.in_ok-first.first = sym (line-in c.args.self.now c.args.owners.now c.requires) ∙ sym c.line.ensures ∙ c.in_ok-first.was in
    let fit = subst (λ (rows : StateRows). RowsFit rows.files) c.layout_rows-rows.ensures.rows c.layout_rows-rows.ensures.fit in
    let made : ◌≡◌ {A = LineRows} (record { first = c.in_ok-first.first; rows = c.rows_end-end.result - r.row }) lines = same_Some _ lines e in
    let rows : c.rows_end-end.result - r.row ≡ lines.rows = cc made in
    let first : c.in_ok-first.first ≡ lines.first = cc made in
    let held = subst (λ (last : ℕ). IsRun (have_row i.rects) last r.row c.rows_end-end.result) c.end_of_pieces-last.ensures c.rows_end-end.ensures in
    rw (sym first) (shown-line w h s shown i (r.row + n) x _ is (line-down i r c.in_ok-first.first c.rows_end-end.result c.requires fit line held n (omega arith)) inside)
