-- The window of two commits is what they leave if they are painted row by row, one over the other.
use Rattle.std.proofs.Common.{◌≡◌, ℕ, zero, suc, List, [], ◌∷◌, length, replicate, refl, sym, ap, ap₂, ◌∙◌}
use Rattle.std.proofs.lemmas.List.{length-replicate}
use Rattle.scm_render.specs.Canvas.{Row}
use Rattle.scm_widgets.specs.declared.ids.ComponentId.{ComponentId}
use Rattle.scm_widgets.specs.Blanks.{blank_row}
use Rattle.scm_widgets.specs.Layers.{Layer, shown_by}
use Rattle.scm_view.specs.ViewState.{ViewState}
use Rattle.scm_view.specs.Window.{rows_from}
use Rattle.scm_screen.specs.Beside.{document_at, layers_beside, window_beside}
use Rattle.scm_screen.specs.DocumentRows.{each_row, painted_rows, with_document}
use Rattle.scm_screen.specs.Laws.{RowsShowLayers}
use Rattle.scm_strips.specs.Shows.{whole}
use Rattle.scm_beside_laws.specs.Laws.{WindowsBesideArePainted}
use Rattle.scm_beside_laws.proofs.BesideLemmas.{all-show, half, over_layers, second, two_rows}

-- ---- rows of the screen, each painted by its number

each-same : (f g : ℕ → Row → Row) (z : ℕ) (rows : List Row) → ((y : ℕ) (row : Row) → f y row ≡ g y row) → each_row f z rows ≡ each_row g z rows
unfolding each_row
each-same f g z [] h = refl
each-same f g z (row ∷ rows) h = ap₂ (λ (r : Row) (rs : List Row). r ∷ rs) (h z row) (each-same f g (suc z) rows h)

-- painted one after the other
each-twice : (f g : ℕ → Row → Row) (z : ℕ) (rows : List Row) → each_row g z (each_row f z rows) ≡ each_row (λ (y : ℕ) (row : Row). g y (f y row)) z rows
unfolding each_row
each-twice f g z [] = refl
each-twice f g z (row ∷ rows) = ap (λ (rs : List Row). g z (f z row) ∷ rs) (each-twice f g (suc z) rows)

each-long : (f : ℕ → Row → Row) (z : ℕ) (rows : List Row) → length (each_row f z rows) ≡ length rows
unfolding each_row
each-long f z [] = refl
each-long f z (row ∷ rows) = ap suc (each-long f (suc z) rows)

rows-each : (w : ℕ) (ls : List (Layer ComponentId)) (z n : ℕ) → rows_from w ls z n ≡ each_row (shown_by ls) z (replicate n (blank_row w))
unfolding rows_from each_row
rows-each w ls z zero = refl
rows-each w ls z (suc n) = ap (λ (rs : List Row). shown_by ls z (blank_row w) ∷ rs) (rows-each w ls (suc z) n)

-- ---- two documents

two-painted : (w h s : ℕ) (shown : ViewState) (rows : List Row) → length rows ≡ h
    → painted_rows (second w shown) s (document_at shown 1) (painted_rows (whole (half w)) s (document_at shown 0) rows) ≡ each_row (two_rows w h s shown) s rows
unfolding painted_rows
two-painted w h s shown rows tall =
    let d = document_at shown 0 in
    let e = document_at shown 1 in
    let first = each_row (with_document (whole (half w)) (length rows) s d) s rows in
    let same : length first ≡ h = each-long (with_document (whole (half w)) (length rows) s d) s rows ∙ tall in
    ap (λ k. each_row (with_document (second w shown) k s e) s first) same
    ∙ ap (λ k. each_row (with_document (second w shown) h s e) s (each_row (with_document (whole (half w)) k s d) s rows)) tall
    ∙ each-twice (with_document (whole (half w)) h s d) (with_document (second w shown) h s e) s rows

pub painted-beside : RowsShowLayers → WindowsBesideArePainted
unfolding window_beside
painted-beside laws w h s shown mode =
    let blank = replicate h (blank_row w) in
    let over = over_layers w h s shown in
    rows-each w (layers_beside w h s shown) s h
    ∙ each-same (shown_by (layers_beside w h s shown)) (λ (y : ℕ) (row : Row). shown_by over y (two_rows w h s shown y row)) s blank (λ y row. sym (all-show laws w h s y shown row mode))
    ∙ sym (each-twice (two_rows w h s shown) (shown_by over) s blank)
    ∙ ap (each_row (shown_by over) s) (sym (two-painted w h s shown blank (length-replicate h (blank_row w))))
