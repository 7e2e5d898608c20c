-- What lies over the rows of a document.
use Rattle.std.proofs.Common.{◌≡◌, ℕ, false, List, [], ◌∷◌, refl}
use Rattle.std.specs.Prelude.{None}
use Rattle.std.proofs.lemmas.Bool.{or_parts}
use Rattle.scm_widgets.specs.declared.overlay_rects.OverlayRect.{OverlayRect}
use Rattle.scm_widgets.specs.Layers.{is_within}
use Rattle.scm_widgets.specs.OverlayRects.{have_row, overlay_owner}

-- where nothing over the document has the row, nothing over it owns a place of the row
pub not-over : (rects : List OverlayRect) (y x : ℕ) → have_row rects y ≡ false → overlay_owner rects y x ≡ None
not-over [] y x e = refl
not-over (r ∷ rects) y x e =
    let parts = or_parts (is_within r.rect.y r.rect.height y) (have_row rects y) e in
    let more = not-over rects y x parts.1 in
    let none = parts.0 in
    rw (more, none) refl
