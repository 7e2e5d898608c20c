-- The cells of a view are those of the pictures that it paints.
use Rattle.std.proofs.Common.{◌≡◌, ℕ, ◌+◌, List, [], ◌∷◌, ◌++◌, map, refl, sym, ap, ap₂, ◌∙◌, subst, Option, string_bytes}
use Rattle.scm_types.specs.declared.keys.SelectionKey.{SelectionKey}
use Rattle.scm_cells.specs.Screen.{Screen}
use Rattle.scm_cells.specs.Symbols.{symbol_at}
use Rattle.scm_terminal.specs.StyledCell.{StyledCell}
use Rattle.scm_record.specs.Frames.{columns_of}
use Rattle.scm_record.specs.Live.{Live}
use Rattle.scm_record.specs.Painted.{screen_of}
use Rattle.scm_shown_cells.specs.Cells.{Adds, AddsRows}
use Rattle.scm_shown_cells.specs.declared.cell_list.CellList.{CellList}
use Rattle.scm_shown_cells.specs.declared.room.ShownScreen.{ShownScreen}
use Rattle.scm_shown_cells.proofs.CellLemmas.{are-of, last-row}
use Rattle.scm_front_paint.specs.declared.painter.FrontPainter.{FrontPainter}
use Rattle.scm_front_paint.specs.declared.themes.Theme.{Theme}
use Rattle.scm_front_paint.specs.declared.status.LeftText.{LeftText}
use Rattle.scm_front_paint.specs.Below.{rows_shown, session_picture, shown_style, width_of}
use Rattle.scm_front_paint.specs.Headers.{AreRows, labelled}
use Rattle.scm_front_paint.specs.Labels.{symbol_under, symbols_over}
use Rattle.scm_front_paint.specs.LineValue.{LineValue}
use Rattle.scm_front_paint.specs.Pane.{offset}
use Rattle.scm_front_paint.specs.Seen.{Seen}
use Rattle.scm_front_paint.specs.Sideways.{sideways_picture}
use Rattle.scm_front_paint.specs.Status.{left_of, right_of}
use Rattle.scm_front_paint.specs.Syntax.{Lines}
use Rattle.scm_front_paint.specs.ViewCells.{HasCells, rows_of_view, status_cells}
use Rattle.scm_front_paint.specs.Words.{AreWords}
use Rattle.scm_front_paint.specs.WordsView.{columns_in}
use Rattle.scm_front_paint.proofs.SidewaysLemmas.{same-symbols}

module _ (painter : FrontPainter) (v : Seen) (accept : List ℕ) (l : Live) (w h x : ℕ) (theme : Theme) (lines : Lines) (anchor : SelectionKey)
    (slice items : List (Option LineValue)) (labels rows : List (Option Screen)) (left : LeftText) (right : List ℕ) where
  abbrev shown_rows : List (List StyledCell)
  shown_rows = sideways_picture x (shown_style theme anchor (map columns_in slice) lines l) (symbols_over labels (screen_of l))

  -- the rows of the session are those of its picture
  session-is : l ≡ v.front.beneath → x ≡ offset v.pane v.front.beneath → theme ≡ painter.theme → lines ≡ painter.syntax → anchor ≡ v.front.kept.anchor → slice ≡ items → labels ≡ rows → AreRows painter.labels l rows
      → shown_rows ≡ session_picture painter.theme (map columns_in items) painter.syntax painter.labels v
  session-is le xe te ye ae se e are =
      ap (λ (list : List (Option Screen)). sideways_picture x (shown_style theme anchor (map columns_in slice) lines l) (symbols_over list (screen_of l))) e
      ∙ same-symbols x (shown_style theme anchor (map columns_in slice) lines l) (symbols_over rows (screen_of l)) (labelled painter.labels l) refl refl
      (λ row c below within. ap (λ (o : Option Screen). symbol_under o c (symbol_at (screen_of l).rows row c)) (are row below))
      ∙ ap (λ (n : ℕ). sideways_picture n (shown_style theme anchor (map columns_in slice) lines l) (labelled painter.labels l)) xe
      ∙ ap (λ (t : Theme). sideways_picture (offset v.pane v.front.beneath) (shown_style t anchor (map columns_in slice) lines l) (labelled painter.labels l)) te
      ∙ ap (λ (s : List (Option LineValue)). sideways_picture (offset v.pane v.front.beneath) (shown_style painter.theme anchor (map columns_in s) lines l) (labelled painter.labels l)) se
      ∙ ap (λ (m : Live). sideways_picture (offset v.pane v.front.beneath) (shown_style painter.theme anchor (map columns_in items) lines m) (labelled painter.labels m)) le
      ∙ ap (λ (key : SelectionKey). sideways_picture (offset v.pane v.front.beneath) (shown_style painter.theme key (map columns_in items) lines v.front.beneath) (labelled painter.labels v.front.beneath)) ae
      ∙ ap (λ (list : Lines). sideways_picture (offset v.pane v.front.beneath) (shown_style painter.theme v.front.kept.anchor (map columns_in items) list v.front.beneath) (labelled painter.labels v.front.beneath)) ye

  -- the status row is that of the view
  status-is : w ≡ width_of v → h ≡ rows_shown v.front.beneath → x ≡ offset v.pane v.front.beneath → left ≡ left_of v.front → right ≡ right_of v.front w left x accept
      → status_cells w h left right
      ≡ status_cells (width_of v) (rows_shown v.front.beneath) (left_of v.front) (right_of v.front (width_of v) (left_of v.front) (offset v.pane v.front.beneath) accept)
  status-is we he xe left_is right_is =
      ap (λ (b : List ℕ). status_cells w h left b) right_is
      ∙ ap (λ (a : LeftText). status_cells w h a (right_of v.front w a x accept)) left_is
      ∙ ap (λ (n : ℕ). status_cells w h (left_of v.front) (right_of v.front w (left_of v.front) n accept)) xe
      ∙ ap (λ (n : ℕ). status_cells n h (left_of v.front) (right_of v.front n (left_of v.front) (offset v.pane v.front.beneath) accept)) we
      ∙ ap (λ (n : ℕ). status_cells (width_of v) n (left_of v.front) (right_of v.front (width_of v) (left_of v.front) (offset v.pane v.front.beneath) accept)) he

  -- what the code appends to a list without cells are the cells of the view
  pub view-cells : (old now : CellList) (screen : ShownScreen) → old.cells.items ≡ [] → string_bytes old.text ≡ [] → AddsRows shown_rows old now → Adds (status_cells w h left right) now screen.list
      → screen.columns ≡ w → screen.rows ≡ h + 1 → l ≡ v.front.beneath → w ≡ width_of v → h ≡ rows_shown v.front.beneath → x ≡ offset v.pane v.front.beneath → theme ≡ painter.theme → lines ≡ painter.syntax → anchor ≡ v.front.kept.anchor → slice ≡ items
      → AreWords l (map columns_in items) → labels ≡ rows → AreRows painter.labels l rows → left ≡ left_of v.front → right ≡ right_of v.front w left x accept → HasCells painter v accept screen
  view-cells old now screen none empty above last wide high le we he xe te ye ae se are labels_are label_rows left_is right_is = record {
    words = map columns_in items;
    are_words = subst (λ (m : Live). AreWords m (map columns_in items)) le are;
    cells =
        are-of (rows_of_view painter.theme (map columns_in items) painter.syntax painter.labels v accept) old screen.list none empty
        (subst (λ (list : List (List StyledCell)). AddsRows list old screen.list)
        (ap₂ (λ (list : List (List StyledCell)) (row : List StyledCell). list ++ row ∷ []) (session-is le xe te ye ae se labels_are label_rows) (status-is we he xe left_is right_is))
        (last-row shown_rows (status_cells w h left right) old now screen.list above last));
    columns = wide ∙ we;
    rows = high ∙ ap (λ (n : ℕ). n + 1) he;
  }
