use Rattle.std.proofs.Common.{◌≡◌, ◌∙◌, ◌++◌, ℕ, false, ap, ap₂, map, length, subst, sym, take_at, List, string_bytes}
use Rattle.std.specs.List.{flat_map}
use Rattle.scm_terminal.specs.declared.row.Row.{Row}
use Rattle.scm_terminal.specs.Painting.{paint_commands}
use Rattle.scm_terminal.specs.PainterView.{cells_of_row}
use Rattle.scm_terminal.specs.StyledCell.{HasSize}
use Rattle.scm_terminal.specs.RowView.{sent_line_of}
use Rattle.scm_terminal.specs.Terminal.{bytes_of}
use Rattle.scm_terminal.proofs.PaintingLemmas.{few-columns, paints}
use Rattle.scm_terminal.proofs.painter.Painter.update_and_push.Goals as goal

pub push_paint-requires-clause-columns : goal.push_paint-requires-clause-columns
push_paint-requires-clause-columns g c =
    let same : c.as_slice.result.now ≡ c.update_rows.new.rows = c.as_slice.ensures.value ∙ take_at c.update_rows.new.rows _ c.self.inside.rows.len (c.update_rows.auto.rows ∙ c.as_mut_slice.ensures.len) in
    few-columns (g.S.Styles.styled c.args.styles.now) c.args.grid.now c.as_slice.result.now c.width.ensures.sizes (ap (map cells_of_row) same ∙ c.in_ok-update_rows.ensures.cells)

pub returns-clause-ok : goal.returns-clause-ok
returns-clause-ok g c =
    let same : c.as_slice.result.now ≡ c.update_rows.new.rows = c.as_slice.ensures.value ∙ take_at c.update_rows.new.rows _ c.self.inside.rows.len (c.update_rows.auto.rows ∙ c.as_mut_slice.ensures.len) in
    let prepared : map cells_of_row c.as_mut_slice.result.now ≡ c.prepare.new.self = ap (map cells_of_row) c.as_mut_slice.ensures.value ∙ c.self.view_is in
    paints (g.S.Styles.styled c.args.styles.now) c.args.grid.now c.in_ok-is_all.is_all c.args.self.now (map cells_of_row c.as_mut_slice.result.now) c.update_rows.new.rows (string_bytes c.push_paint.new.text)
    c.width.ensures.sizes c.in_ok-update_rows.ensures.cells c.in_ok-update_rows.ensures.changed
    (λ (e : c.in_ok-is_all.is_all ≡ false). prepared ∙ c.in_ok-is_all.ensures.all e)
    (λ (e : c.in_ok-is_all.is_all ≡ false).
    subst (λ (w : ℕ). HasSize w (length c.args.grid.now.rows) c.args.self.now) c.width.ensures.value
    (subst (λ (h : ℕ). HasSize c.width.result h c.args.self.now) c.height.ensures.value (c.in_ok-is_all.ensures.sized.0 e)))
    (λ (size : HasSize c.args.grid.now.width (length c.args.grid.now.rows) c.args.self.now).
    c.in_ok-is_all.ensures.sized.1 (subst (λ (w : ℕ). HasSize w c.height.result c.args.self.now) (sym c.width.ensures.value)
    (subst (λ (h : ℕ). HasSize c.args.grid.now.width h c.args.self.now) (sym c.height.ensures.value) size)))
    (c.in_ok-push_paint.ensures ∙ ap₂ (λ (start : List ℕ) (rows : List Row). start ++ flat_map bytes_of (paint_commands (map sent_line_of rows))) c.new-text.ensures.bytes same)
