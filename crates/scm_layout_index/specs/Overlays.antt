-- The last row over which something lies.
use Rattle.std.specs.Prelude.{◌≡◌, ℕ, ◌<◌, ◌^◌, false, List}
use Rattle.std.specs.List.{All}
use Rattle.scm_widgets.specs.declared.overlay_rects.OverlayRect.{OverlayRect}
use Rattle.scm_widgets.specs.Layers.{is_within}

-- rectangle r has no row below row m, of those that a machine counts
abbrev pub IsAbove : ℕ → OverlayRect → Type 0
IsAbove m r = (y : ℕ) → y < 2 ^ 64 → m < y → is_within r.rect.y r.rect.height y ≡ false

-- no rectangle has one
abbrev pub AreAbove : ℕ → List OverlayRect → Type 0
AreAbove m rs = All (IsAbove m) rs
