-- What the code keeps of a frame that is not plain: the box of each component, and apart from them the boxes that the screen showed.
use Rattle.std.specs.Prelude.{◌≡◌, ℕ, ℤ, pos, ◌+ℤ◌, Bool, ◌&&◌, int_le, int_lt, List, Option, None, option_map, fold}
use Rattle.std.specs.HashMap.{IsUnique}
use Rattle.std.specs.Int.{int_max}
use Rattle.std.specs.List.{filter}
use Rattle.scm_cells.specs.declared.rect.Rect.{Rect}
use Rattle.scm_render.specs.Hits.{holds}
use Rattle.scm_render.specs.Target.{look}
use Rattle.scm_render.specs.declared.trace.DrawnRect.{DrawnRect}
use Rattle.scm_widgets.specs.Clicks.{is_clickable}
use Rattle.scm_widgets.specs.SameIds.{same_id}
use Rattle.scm_widgets.specs.declared.ids.ComponentId.{ComponentId}
use Rattle.scm_record.specs.declared.free_places.FreePlaces.{FreePlaces}

-- whether `place` lies in `from..from + size`
abbrev pub is_among : ℤ → ℕ → ℤ → Bool
is_among from size place = int_le from place && int_lt place (from +ℤ pos size)

-- whether the rectangle has one of the rows `first..end`: its first row from `first` on is before `end`, and in it
abbrev pub has_row_among : ℤ → ℤ → Rect → Bool
has_row_among first end r = int_lt (int_max r.y first) end && is_among r.y r.height (int_max r.y first)

-- whether the box is clickable and has one of the rows `first..end`
unfoldable pub is_shown : ℤ → ℤ → ComponentId × DrawnRect → Bool
is_shown first end e = is_clickable e.0 && has_row_among first end e.1.rect

-- whether the rectangle contains row `y` and the column `x` of the screen
abbrev pub holds_at : Rect → ℤ → ℕ → Bool
holds_at r y x = holds r y (pos x)

-- the id of the latest clickable box of the list that contains the point
abbrev pub target_in : List (ComponentId × DrawnRect) → ℤ → ℤ → Option ComponentId
target_in shown y x = option_map (λ (e : ComponentId × DrawnRect). e.0) (fold (look is_clickable y x) None shown)

-- the boxes kept apart are those of the map that the screen showed
pub record AreShown (places : FreePlaces) : Type 0 where
  pub shown : places.shown.items ≡ filter (is_shown places.first places.end) places.boxes.entries
  -- the map has each id once
  pub unique : IsUnique same_id places.boxes
