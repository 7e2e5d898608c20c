-- The line that a row of a session's screen shows, as clicks find it.
use Rattle.std.specs.Prelude.{ℕ, Option, Some, None, option_map}
use Rattle.scm_types.specs.declared.keys.LineKey.{LineKey}
use Rattle.scm_types.specs.declared.keys.SelectionKey.{SelectionKey}
use Rattle.scm_types.specs.declared.keys.SelectionKey.TheVariants as keys
use Rattle.scm_widgets.specs.declared.ids.ComponentId.{ComponentId}
use Rattle.scm_widgets.specs.declared.ids.ComponentId.TheVariants as ids
use Rattle.scm_layout_index.specs.LineRows.{line_below}
use Rattle.scm_record.specs.declared.live.lines.ShownLines.{ShownLines}
use Rattle.scm_record.specs.FrameQueries.{hit}
use Rattle.scm_record.specs.Frames.{scene_of}
use Rattle.scm_record.specs.Live.{Live}

-- the line that a key names, if it names one
abbrev pub line_of_key : SelectionKey → Option LineKey
line_of_key keys.None = None
line_of_key (keys.File key) = None
line_of_key (keys.Section key) = None
line_of_key (keys.Line key) = Some key

-- the line of a component, if it is one
abbrev pub line_of : Option ComponentId → Option LineKey
line_of None = None
line_of (Some ids.App) = None
line_of (Some ids.AppFiles) = None
line_of (Some ids.CommitMessageView) = None
line_of (Some (ids.CommitEditMessageButton commit)) = None
line_of (Some ids.MenuBar) = None
line_of (Some ids.MenuHeader) = None
line_of (Some (ids.Menu menu)) = None
line_of (Some (ids.MenuItem item)) = None
line_of (Some (ids.FileViewHeader key)) = None
line_of (Some (ids.SelectableItem key)) = line_of_key key
line_of (Some (ids.ToggleBox key)) = None
line_of (Some (ids.ExpandBox key)) = None
line_of (Some ids.HelpDialog) = None
line_of (Some ids.HelpDialogQuitButton) = None
line_of (Some ids.QuitDialog) = None
line_of (Some (ids.QuitDialogButton button)) = None

-- the line on row `row` of the screen: a click on column 8, where the sign of a changed line stands, acts on it
abbrev pub line_on : Live → ℕ → Option LineKey
line_on l row = line_of (hit (scene_of l.kind l.session) l.session.scroll row 8)

-- the line that row `n` of the rows shows, counted from 0, if they show lines
abbrev pub line_after : ShownLines → ℕ → Option LineKey
line_after lines n = option_map (λ (first : LineKey). line_below first n) lines.first
