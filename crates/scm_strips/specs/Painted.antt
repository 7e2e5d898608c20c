-- The screen after a row is painted.
use Rattle.std.specs.Prelude.{◌≡◌, ℕ, ◌+◌, min, nat_lt, pos, ◌-ℤ◌, List, [], length, slice_index_or, slice_set, if◌then◌else◌}
use Rattle.scm_cells.specs.Counts.{added}
use Rattle.scm_cells.specs.Row.{ellipsis}
use Rattle.scm_cells.specs.Screen.{Screen, put_on}
use Rattle.scm_render.specs.Canvas.{Row}
use Rattle.scm_render.specs.Drawing.{texts_width}
use Rattle.scm_render.specs.Rows.{put_texts}
use Rattle.scm_widgets.specs.Counts.{drawn}
use Rattle.scm_strips.specs.declared.area.Area.{Area}
use Rattle.scm_strips.specs.Shows.{AreaRow, shows, calls_of}

-- screen s with f applied to its row z
abbrev pub with_row : ℕ → (Row → Row) → Screen → Screen
with_row z f s = record s { rows = slice_set s.rows z (f (slice_index_or s.rows z [])) }

-- the same, after `calls` draw calls
abbrev pub drawn_on : ℕ → (Row → Row) → ℕ → Screen → Screen
drawn_on z f calls s = record s {
  rows = slice_set s.rows z (f (slice_index_or s.rows z []));
  counts = added s.counts (drawn 0 calls);
}

-- screen s after row d is painted on its row z, in area a
abbrev pub painted : Area → ℕ → AreaRow → Screen → Screen
painted a z d s = record s {
  rows = slice_set s.rows z (shows a d (slice_index_or s.rows z []));
  counts = added s.counts (drawn 1 (calls_of d));
}

-- two screens have the same size
pub record IsSized (s t : Screen) : Type 0 where
  pub width : t.width ≡ s.width
  pub height : length t.rows ≡ length s.rows

-- the column behind texts ts that begin at column c, or `high + 1` if that is further left
abbrev pub reached : ℕ → ℕ → List (List ℕ) → ℕ
reached high c ts = min (c + texts_width ts) (high + 1)

-- screen s with texts ts on its row z from column c on, clipped to columns low..high
abbrev pub with_texts : ℕ → ℕ → List (List ℕ) → ℕ → ℕ → Screen → Screen
with_texts z c ts low high s = with_row z (λ r. put_texts r (pos c) ts low high) s

-- screen s with an ellipsis in column `high - 1` of its row z, if texts end behind column `high`
abbrev pub with_end : ℕ → ℕ → ℕ → ℕ → Screen → Screen
with_end z end low high s = if nat_lt high end then put_on s z (pos high -ℤ pos 1) ellipsis low high else s
