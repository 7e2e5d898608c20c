-- A cleared grid is a screen of the document.
use Rattle.std.proofs.Common.{◌≡◌, ℕ, ◌≤◌, ap, arith}
use Rattle.std.proofs.lemmas.List.{length-replicate}
use Rattle.std.specs.Prelude.{pos, None}
use Rattle.scm_types.proofs.LimitLemmas.{scroll_room}
use Rattle.scm_types.specs.Limits.{max_scroll}
use Rattle.scm_cells.specs.Rect.{RectInRange}
use Rattle.scm_cells.specs.Screen.{blank_screen}
use Rattle.scm_cells.proofs.RectLemmas.{places}
use Rattle.scm_render.specs.Places.{whole_sight}
use Rattle.scm_widgets.specs.Blanks.{blank_row}
use Rattle.scm_widgets.specs.Screens.{screen, sight}

-- a screen that isn't scrolled too far is in range
pub screen-in_range : (w h s : ℕ) → w ≤ 65535 → h ≤ 65535 → s ≤ max_scroll → RectInRange (screen w h s)
screen-in_range w h s p q r = record {
  x = record { low = omega (arith, places, scroll_room); high = omega (arith, places, scroll_room) };
  end_x = record { low = omega (arith, places, scroll_room); high = omega (arith, places, scroll_room) };
  y = record { low = omega (arith, places, scroll_room); high = omega (arith, places, scroll_room) };
  end_y = record { low = omega (arith, places, scroll_room); high = omega (arith, places, scroll_room) };
}

-- a cleared grid is the screen
pub cleared-sight : (w h s : ℕ) → whole_sight (blank_screen w h) (pos 0) (pos s) ≡ sight w h s
cleared-sight w h s = ap (λ n. record { rect = record { x = pos 0; y = pos s; width = w; height = n }; mask = None }) (length-replicate h (blank_row w))
