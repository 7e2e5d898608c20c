-- Queries of the scene last drawn: the text of a screenshot, the hit test of a click, limits of the scroll, rows of a key.
use Rattle.std.specs.Prelude.{ℕ, ◌+◌, ◌-◌, ◌&&◌, ◌||◌, min, nat_le, nat_lt, Bool, List, replicate, Option, Some, None, option_map, if◌then◌else◌}
use Rattle.scm_types.specs.Limits.{max_scroll}
use Rattle.scm_cells.specs.Screen.{view_of}
use Rattle.scm_widgets.specs.Blanks.{blank_row}
use Rattle.scm_types.specs.declared.keys.SelectionKey.{SelectionKey}
use Rattle.scm_types.specs.declared.keys.SelectionKey.TheVariants as keys
use Rattle.scm_widgets.specs.declared.ids.ComponentId.{ComponentId}
use Rattle.scm_record.specs.Frames.{Scene}

-- the text of a screenshot: the rows of the scene, or blank rows if the screen was cleared
abbrev pub shot_of : Scene → Bool → List ℕ
shot_of scene cleared =
    view_of (if cleared then replicate scene.height (blank_row scene.width) else scene.frame.rows)

-- the component that a click at `row` and `column` hits, with the scroll `s`: none off the screen or past the maximum scroll
abbrev pub hit : Scene → ℕ → ℕ → ℕ → Option ComponentId
hit scene s row column =
    if (nat_lt column scene.width && nat_lt row scene.height) && nat_le s max_scroll then scene.frame.owner (s + row) column else None

-- the scroll `s`, limited to the last row that was drawn and to the maximum scroll
abbrev pub limited_scroll : Scene → ℕ → ℕ
limited_scroll scene s = min s (min max_scroll (scene.frame.extent - 1))

-- the rows that stay free above a key: for the menu bar, and for a pinned header
abbrev pub free_rows_above : SelectionKey → ℕ
free_rows_above keys.None = 2
free_rows_above (keys.File key) = 1
free_rows_above (keys.Section key) = 2
free_rows_above (keys.Line key) = 2

-- the scroll at which rows `t..b` are on a screen of `h` rows, with `m` rows free above; `s` if they already are; if they don't fit,
-- row `t` is right below the free rows
abbrev pub scroll_to_rows : ℕ → ℕ → ℕ → ℕ → ℕ → ℕ
scroll_to_rows h s m t b =
    if nat_le (s + m) t && nat_lt b (s + h) then s
    else if nat_le (h - m) (b - t) || nat_lt t (s + m) then t - m
    else b - h

-- that scroll for a span of a first row and a height; `s` if there is no span
abbrev pub scroll_to_span : ℕ → ℕ → ℕ → Option (ℕ × ℕ) → ℕ
scroll_to_span h s m None = s
scroll_to_span h s m (Some span) = scroll_to_rows h s m span.0 (span.0 + span.1)

-- the scroll that shows `key`, starting from `s`; `s` if `key` was not drawn
abbrev pub scroll_to_show : Scene → ℕ → SelectionKey → ℕ
scroll_to_show scene s key = min max_scroll (scroll_to_span scene.height s (free_rows_above key) (scene.frame.span key))

-- the first row of `key` in the document, if it was drawn
abbrev pub top_in : Scene → SelectionKey → Option ℕ
top_in scene key = option_map (λ (span : ℕ × ℕ). span.0) (scene.frame.span key)
