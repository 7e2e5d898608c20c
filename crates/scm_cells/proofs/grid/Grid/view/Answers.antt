use Rattle.std.proofs.Common.{◌∙◌, ap, arith, take_all}
use Rattle.std.specs.List.{flat_map}
use Rattle.scm_cells.specs.Row.{row_text}
use Rattle.scm_cells.specs.Screen.{Screen, view_of}
use Rattle.scm_cells.proofs.ScreenLemmas.{view-more}
use Rattle.scm_cells.proofs.grid.Grid.view.Goals as goal

pub rows-preserved : goal.rows-preserved
rows-preserved c = view-more c.deref-cells-items.result.now c.rows.cells-index c.cells-item.result _ _ c.columns.result.now (omega arith) c.rows.invariant (c.columns.ensures ∙ c.cells-item.is) c.in_ok-push_row.ensures

pub returns-clause-ok : goal.returns-clause-ok
returns-clause-ok c =
    c.rows.invariant ∙ ap (flat_map row_text) (take_all c.rows.cells-index c.deref-cells-items.result.now (omega arith) ∙ c.deref-cells-items.ensures.value)
    ∙ ap (λ (s : Screen). view_of s.rows) c.self.view_is
