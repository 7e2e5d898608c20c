use Rattle.std.proofs.Common.{◌≡◌, ◌∙◌, ap, arith, length, List}
use Rattle.std.specs.Vec.{with_items}
use Rattle.std.proofs.lemmas.List.{with_items_is}
use Rattle.scm_cells.specs.Screen.{Screen, blank_screen}
use Rattle.scm_cells.proofs.MapFrom.{so_far-more}
use Rattle.scm_cells.proofs.ScreenLemmas.{cleared_row, screen-cleared, IsScreen-blank, IsScreen-same}
use Rattle.scm_cells.proofs.grid.Grid.clear.Goals as goal

pub rows-preserved : goal.rows-preserved
rows-preserved c =
    so_far-more cleared_row _ _ _ c.cells-item.result _ (omega arith) c.rows.invariant c.clear.ensures

pub invariant_of-self : goal.invariant_of-self
invariant_of-self c =
    let items = c.rows.cells-items in
    let final : (with_items c.self.inside.rows items).items ≡ items = with_items_is c.self.inside.rows items (c.rows.auto.cells-items ∙ c.deref_mut-cells-items.ensures.len) in
    record {
      screen = IsScreen-same _ _
          (screen-cleared items c.deref_mut-cells-items.result.now c.self.inside.rows.items _ c.rows.cells-index c.self.inside.width c.deref_mut-cells-items.ensures.value final (omega arith) c.self.invariant.screen c.rows.invariant)
          (IsScreen-blank c.self.inside.width (length c.self.inside.rows.items) c.self.invariant.screen.width c.self.invariant.screen.height);
      laid = c.self.invariant.laid;
    }

pub returns : goal.returns
returns c =
    let items = c.rows.cells-items in
    let final : (with_items c.self.inside.rows items).items ≡ items = with_items_is c.self.inside.rows items (c.rows.auto.cells-items ∙ c.deref_mut-cells-items.ensures.len) in
    screen-cleared items c.deref_mut-cells-items.result.now c.self.inside.rows.items _ c.rows.cells-index c.self.inside.width c.deref_mut-cells-items.ensures.value final (omega arith) c.self.invariant.screen c.rows.invariant
    ∙ ap (λ (s : Screen). blank_screen s.width (length s.rows)) c.self.view_is
