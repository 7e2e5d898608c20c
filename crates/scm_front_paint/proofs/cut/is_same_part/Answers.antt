use Rattle.std.proofs.Common.{◌+◌, ◌∙◌, sym}
use Rattle.scm_cells.specs.Symbols.{symbol_at}
use Rattle.scm_front_paint.proofs.CutLemmas.{same-behind, same-place}
use Rattle.scm_front_paint.proofs.cut.is_same_part.Goals as goal

pub places-init : goal.places-init
places-init c = λ k low high.
    same-place c.args.own.grid.now.rows c.args.other.grid.now.rows c.args.own.row k c.args.other.row (c.args.x + k) c.columns-columns.result.now c.columns-others.result.now
    c.columns-columns.ensures c.columns-others.ensures (c.end_of_same-column.ensures.same k low high)

pub places-preserved : goal.places-preserved
places-preserved c =
    same-behind (λ k. symbol_at c.args.own.grid.now.rows c.args.own.row k) (λ k. symbol_at c.args.other.grid.now.rows c.args.other.row k) c.args.x c.args.from c.places.column _
    (sym c.symbol-symbol.ensures ∙ c.is_same.ensures c.if-not-is_same.false ∙ c.symbol.ensures)
    c.places.invariant
    (λ k low high.
    same-place c.args.own.grid.now.rows c.args.other.grid.now.rows c.args.own.row k c.args.other.row (c.args.x + k) c.columns-columns.result.now c.columns-others.result.now
    c.columns-columns.ensures c.columns-others.ensures (c.end_of_same-column-in-places.ensures.same k low high))
