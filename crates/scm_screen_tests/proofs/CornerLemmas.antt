-- What is at the document's corner is not far from it.
use Rattle.std.proofs.Common.{◌≡◌, ℕ, ◌≤◌, ℤ, pos, ◌≤ℤ◌, arith}
use Rattle.std.proofs.lemmas.Int.{ints}
use Rattle.scm_cells.specs.Screen.{Screen}
use Rattle.scm_render.specs.Canvas.{Sight}
use Rattle.scm_render.specs.Places.{whole_sight}
use Rattle.scm_widgets.specs.DrawBounds.{IsInDrawBounds, RectIsInDrawBounds}
use Rattle.scm_document.specs.DrawBounds.{SightIsInDrawBounds}
use Rattle.scm_view.specs.ComponentRanges.{AppIsInDrawBounds}
use Rattle.scm_screen_tests.specs.Corner.{IsAtCorner, SightIsAtCorner}

pub here : (z : ℤ) → IsAtCorner z → IsInDrawBounds z
here z h = record { low = omega (arith, ints, h.low); high = omega (arith, ints, h.high) }

pub sight-here : (s : Sight) → SightIsAtCorner s → SightIsInDrawBounds s
sight-here s h = record { x = here _ h.x; end_x = here _ h.end_x; mask_x = here _ h.mask_x; mask_y = here _ h.mask_y }

pub rect-here : (s : Sight) → SightIsAtCorner s → RectIsInDrawBounds s.rect
rect-here s h = record { x = here _ h.x; end_x = here _ h.end_x; y = here _ h.y; end_y = here _ h.end_y }

pub corner : IsInDrawBounds (pos 0)
corner = record { low = omega (arith, ints); high = omega (arith, ints) }

-- a whole grid that shows the document from row y on
pub whole-here : (g : Screen) (y : ℕ) → g.width ≤ 100 → y ≤ 100 → SightIsInDrawBounds (whole_sight g (pos 0) (pos y))
whole-here g y w h = record {
  x = record { low = omega (arith, ints); high = omega (arith, ints) };
  end_x = record { low = omega (arith, ints); high = omega (arith, ints, w) };
  mask_x = record { low = omega (arith, ints); high = omega (arith, ints) };
  mask_y = record { low = omega (arith, ints); high = omega (arith, ints, h) };
}

pub app-here : (s : Sight) (x : ℤ) → SightIsAtCorner s → IsAtCorner x → AppIsInDrawBounds s x
app-here s x h p = record {
  rect = rect-here s h;
  below = record { low = omega (arith, ints, h.y.low); high = omega (arith, ints, h.y.high) };
  first = here x p;
  second = record { low = omega (arith, ints, p.low); high = omega (arith, ints, p.high, h.x.low, h.end_x.high) };
}
