-- Overlay rectangles: the owners of columns and rows over the document. Where two overlap, the later one of a list owns the place.
use Rattle.std.specs.Prelude.{ℕ, pos, nat_le, nat_lt, Bool, ◌&&◌, if◌then◌else◌, List, [], ◌∷◌, Option, Some, None}
use Rattle.std.specs.List.{list_any}
use Rattle.scm_render.specs.Drawing.{row_rect}
use Rattle.scm_render.specs.Hits.{first_of_two}
use Rattle.scm_widgets.specs.declared.ids.ComponentId.{ComponentId}
use Rattle.scm_widgets.specs.declared.overlay_rects.OverlayRect.{OverlayRect}
use Rattle.scm_widgets.specs.declared.placed_button.PlacedButton.{PlacedButton}
use Rattle.scm_widgets.specs.Layers.{is_within}

-- The rectangle that `i` owns on row `y`: `n` columns from column `x` on.
abbrev pub row_overlay_rect : ComponentId → ℕ → ℕ → ℕ → OverlayRect
row_overlay_rect i y x n = record { id = i; rect = row_rect (pos x) (pos y) n }

-- The rectangles of buttons in their places, each owned by its button.
abbrev pub button_rects : List (PlacedButton ComponentId) → List OverlayRect
button_rects [] = []
button_rects (p ∷ ps) = record { id = p.button.id; rect = p.rect } ∷ button_rects ps

-- ---- owners

-- whether row y is in top..end
abbrev pub is_from : ℕ → ℕ → ℕ → Bool
is_from top end y = nat_le top y && nat_lt y end

-- whether overlay rectangle `s` has row y and column x
abbrev pub is_at : OverlayRect → ℕ → ℕ → Bool
is_at s y x = is_within s.rect.y s.rect.height y && is_within s.rect.x s.rect.width x

-- whether one of the overlay rectangles has row y
abbrev pub have_row : List OverlayRect → ℕ → Bool
have_row ss y = list_any (λ (s : OverlayRect). is_within s.rect.y s.rect.height y) ss

-- the owner of a point among overlay rectangles: the last one that has the point
abbrev pub overlay_owner : List OverlayRect → ℕ → ℕ → Option ComponentId
overlay_owner [] y x = None
overlay_owner (s ∷ ss) y x = first_of_two (overlay_owner ss y x) (if is_at s y x then Some s.id else None)
