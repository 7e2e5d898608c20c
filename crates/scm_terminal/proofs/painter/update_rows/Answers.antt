use Rattle.std.proofs.Common.{◌≡◌, ℕ, ◌+◌, ◌<◌, ◌∙◌, length, map, get_or, refl, sym, ap, subst, arith, List}
use Rattle.std.specs.Prelude.{[]}
use Rattle.std.proofs.lemmas.List.{length-map, map-set, get_or-map}
use Rattle.scm_terminal.specs.StyledCell.{StyledCell, styled_row}
use Rattle.scm_terminal.specs.Painting.{Line}
use Rattle.scm_terminal.specs.RowView.{line_of}
use Rattle.scm_terminal.specs.PainterView.{cells_of_row}
use Rattle.scm_terminal.proofs.UpdateLemmas.{Updated, Updated-none, Updated-more, updated-shown, updated-changed, cells-lines, before-is, same-in, wide-at}
use Rattle.scm_terminal.proofs.painter.update_rows.Goals as goal

pub loop-shown-init : goal.loop-shown-init
loop-shown-init g c = record { row = refl; room = c.requires.room; rows = Updated-none _ c.args.is_all (map cells_of_row c.args.rows.now) (map line_of c.args.rows.now) (cells-lines c.args.rows.now) }

pub update_row-requires-clause-cells : goal.update_row-requires-clause-cells
update_row-requires-clause-cells g c =
    let rows = c.loop-shown.rows in
    let i = c.loop-shown.shown-index in
    let olds = map cells_of_row c.args.rows.now in
    let within : i < length rows = omega arith in
    let count = length-map c.args.rows.now cells_of_row in
    let high = c.requires.rows.high in
    let same = c.loop-shown.auto.rows in
    ap length (sym (get_or-map cells_of_row rows i c.shown-item.result [] within) ∙ ap (λ (xs : List (List StyledCell)). get_or xs i []) (sym (cells-lines rows))
    ∙ before-is _ c.args.is_all olds (map line_of rows) i c.loop-shown.invariant.rows)
    ∙ wide-at c.args.grid.now.width _ i olds c.requires.rows (omega arith)

pub update_row-requires-clause-same : goal.update_row-requires-clause-same
update_row-requires-clause-same g c =
    let rows = c.loop-shown.rows in
    let i = c.loop-shown.shown-index in
    let olds = map cells_of_row c.args.rows.now in
    let within : i < length rows = omega arith in
    let count = length-map c.args.rows.now cells_of_row in
    let high = c.requires.rows.high in
    let same = c.loop-shown.auto.rows in
    same-in (g.S.Styles.styled c.args.styles.now) c.args.grid.now c.args.is_all c.loop-shown.row c.args.first i olds _ c.requires.rows c.requires.same
    c.loop-shown.invariant.row (omega arith)
    (sym (get_or-map cells_of_row rows i c.shown-item.result [] within) ∙ ap (λ (xs : List (List StyledCell)). get_or xs i []) (sym (cells-lines rows))
    ∙ before-is _ c.args.is_all olds (map line_of rows) i c.loop-shown.invariant.rows)

pub loop-shown-preserved : goal.loop-shown-preserved
loop-shown-preserved g c =
    let rows = c.loop-shown.rows in
    let i = c.loop-shown.shown-index in
    let f = styled_row (g.S.Styles.styled c.args.styles.now) c.args.grid.now in
    let olds = map cells_of_row c.args.rows.now in
    let lines = map line_of rows in
    let row = c.update_row.new.shown in
    let within : i < length rows = omega arith in
    let same = c.loop-shown.auto.rows in
    let count = length-map c.args.rows.now cells_of_row in
    let lines_count = length-map rows line_of in
    let before = sym (get_or-map cells_of_row rows i c.shown-item.result [] within) ∙ ap (λ (xs : List (List StyledCell)). get_or xs i []) (sym (cells-lines rows)) in
    record {
      row = let at = c.loop-shown.invariant.row in omega arith;
      room = c.update_row.ensures.room;
      rows = subst (λ (ls : List Line). Updated f c.args.is_all olds ls (i + 1)) (sym (map-set line_of rows i row))
          (Updated-more f c.args.is_all olds lines i (cells_of_row (get_or rows i c.shown-item.result)) (line_of row) (omega arith) (omega arith) c.loop-shown.invariant.rows before
          (c.in_ok-update_row.ensures.cells ∙ ap f c.loop-shown.invariant.row)
          c.in_ok-update_row.ensures.changed);
    }

pub returns-clause-cells : goal.returns-clause-cells
returns-clause-cells g c =
    let rows = c.loop-shown.rows in
    let f = styled_row (g.S.Styles.styled c.args.styles.now) c.args.grid.now in
    let olds = map cells_of_row c.args.rows.now in
    let count = length-map c.args.rows.now cells_of_row in
    let lines_count = length-map rows line_of in
    let high = c.requires.rows.high in
    let same = c.loop-shown.auto.rows in
    let all : c.loop-shown.shown-index ≡ length c.args.grid.now.rows = omega arith in
    sym (cells-lines rows)
    ∙ updated-shown f c.args.is_all olds (map line_of rows) (length c.args.grid.now.rows) (omega arith) (subst (λ (n : ℕ). Updated f c.args.is_all olds (map line_of rows) n) all c.loop-shown.invariant.rows)

pub returns-clause-changed : goal.returns-clause-changed
returns-clause-changed g c =
    let rows = c.loop-shown.rows in
    let f = styled_row (g.S.Styles.styled c.args.styles.now) c.args.grid.now in
    let olds = map cells_of_row c.args.rows.now in
    let count = length-map c.args.rows.now cells_of_row in
    let lines_count = length-map rows line_of in
    let high = c.requires.rows.high in
    let same = c.loop-shown.auto.rows in
    let all : c.loop-shown.shown-index ≡ length c.args.grid.now.rows = omega arith in
    updated-changed f c.args.is_all olds (map line_of rows) (length c.args.grid.now.rows) (omega arith) (omega arith) (subst (λ (n : ℕ). Updated f c.args.is_all olds (map line_of rows) n) all c.loop-shown.invariant.rows)
