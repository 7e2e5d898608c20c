-- Rows of a session's screen that name a section, and the labels that they show.
use Rattle.std.specs.Prelude.{◌≡◌, ◌⊎◌, ℕ, ◌-◌, ◌<◌, List, [], length, slice_index_or, Option, Some, None, is_some, if◌then◌else◌}
use Rattle.std.specs.List.{concat}
use Rattle.std.specs.Option.{option_or}
use Rattle.scm_types.specs.declared.keys.SectionKey.{SectionKey}
use Rattle.scm_types.specs.declared.keys.SelectionKey.{SelectionKey}
use Rattle.scm_types.specs.declared.keys.SelectionKey.TheVariants as keys
use Rattle.scm_cells.specs.Replaced.{line_pieces}
use Rattle.scm_cells.specs.Screen.{Screen}
use Rattle.scm_widgets.specs.declared.ids.ComponentId.{ComponentId}
use Rattle.scm_widgets.specs.declared.ids.ComponentId.TheVariants as ids
use Rattle.scm_record.specs.FrameQueries.{hit}
use Rattle.scm_record.specs.Frames.{columns_of, scene_of}
use Rattle.scm_record.specs.Live.{Live}
use Rattle.scm_record.specs.Painted.{screen_of}
use Rattle.scm_front_paint.specs.declared.labels.Label.{Label}
use Rattle.scm_front_paint.specs.Labels.{has_title, label_row, label_screen, symbols_with, text_of}
use Rattle.scm_front_paint.specs.Symbols.{Symbols, symbols_of}
use Rattle.scm_front_paint.specs.Words.{is_bare}

-- ---- headers

abbrev pub section_of_key : SelectionKey → Option SectionKey
section_of_key keys.None = None
section_of_key (keys.File key) = None
section_of_key (keys.Section key) = Some key
section_of_key (keys.Line key) = None

-- the section that a component folds, if it is the fold box of one
abbrev pub folded_by : Option ComponentId → Option SectionKey
folded_by None = None
folded_by (Some ids.App) = None
folded_by (Some ids.AppFiles) = None
folded_by (Some ids.CommitMessageView) = None
folded_by (Some (ids.CommitEditMessageButton commit)) = None
folded_by (Some ids.MenuBar) = None
folded_by (Some ids.MenuHeader) = None
folded_by (Some (ids.Menu menu)) = None
folded_by (Some (ids.MenuItem item)) = None
folded_by (Some (ids.FileViewHeader key)) = None
folded_by (Some (ids.SelectableItem key)) = None
folded_by (Some (ids.ToggleBox key)) = None
folded_by (Some (ids.ExpandBox key)) = section_of_key key
folded_by (Some ids.HelpDialog) = None
folded_by (Some ids.HelpDialogQuitButton) = None
folded_by (Some ids.QuitDialog) = None
folded_by (Some (ids.QuitDialogButton button)) = None

-- the section that a component toggles, if it is the checkbox of one
abbrev pub toggled_by : Option ComponentId → Option SectionKey
toggled_by None = None
toggled_by (Some ids.App) = None
toggled_by (Some ids.AppFiles) = None
toggled_by (Some ids.CommitMessageView) = None
toggled_by (Some (ids.CommitEditMessageButton commit)) = None
toggled_by (Some ids.MenuBar) = None
toggled_by (Some ids.MenuHeader) = None
toggled_by (Some (ids.Menu menu)) = None
toggled_by (Some (ids.MenuItem item)) = None
toggled_by (Some (ids.FileViewHeader key)) = None
toggled_by (Some (ids.SelectableItem key)) = None
toggled_by (Some (ids.ToggleBox key)) = section_of_key key
toggled_by (Some (ids.ExpandBox key)) = None
toggled_by (Some ids.HelpDialog) = None
toggled_by (Some ids.HelpDialogQuitButton) = None
toggled_by (Some ids.QuitDialog) = None
toggled_by (Some (ids.QuitDialogButton button)) = None

-- the component that a click at the end of row `row` acts on
abbrev pub last_owner : Live → ℕ → Option ComponentId
last_owner l row = hit (scene_of l.kind l.session) l.session.scroll row (columns_of l.kind - 1)

-- the component that a click at the checkbox of a section on row `row` acts on, if one is there
abbrev pub box_owner : Live → ℕ → Option ComponentId
box_owner l row = hit (scene_of l.kind l.session) l.session.scroll row 2

-- the section that row `row` of the screen names: a click at the end of the row folds it (the header of changed lines), or a click on the
-- checkbox toggles it (also a mode, and binary contents); none while something lies over the rows
abbrev pub header_on : Live → ℕ → Option SectionKey
header_on l row = if is_bare l then option_or (folded_by (last_owner l row)) (toggled_by (box_owner l row)) else None

-- where the title of a section ends on row `row`: before the fold box if there is one, else at the end of the row
abbrev pub title_end : Live → ℕ → ℕ
title_end l row = if is_some (folded_by (last_owner l row)) then columns_of l.kind - 3 else columns_of l.kind

abbrev pub text_of_header : List Label → Option SectionKey → List ℕ
text_of_header labels None = []
text_of_header labels (Some key) = text_of labels key.file_idx key.section_idx

-- ---- labels on rows

-- the row of the label that row `row` of the screen shows, if it names a section that has one
abbrev pub label_on : List Label → Live → ℕ → Option Screen
label_on labels l row =
    label_row (title_end l row) (has_title (symbols_of (screen_of l)) row (title_end l row)) (text_of_header labels (header_on l row))

-- the symbols of a session's screen, with labels on its rows
abbrev pub labelled : List Label → Live → Symbols
labelled labels l = symbols_with (label_on labels l) (screen_of l)

-- the rows of labels over a screen: those that each of its rows shows
abbrev pub AreRows : List Label → Live → List (Option Screen) → Type 0
AreRows labels l rows =
    (k : ℕ) → k < length (scene_of l.kind l.session).frame.rows → slice_index_or rows k None ≡ label_on labels l k

-- row `row` is the header of section `key`: a click at its end folds the section, and its title ends before the fold box
abbrev pub Folds : Live → ℕ → SectionKey → Type 0
Folds l row key = (last_owner l row ≡ Some (ids.ExpandBox (keys.Section key))) × (title_end l row ≡ columns_of l.kind - 3)

-- row `row` has the checkbox of section `key`, and no section's fold box: its title goes to the end of the row
abbrev pub Toggles : Live → ℕ → SectionKey → Type 0
Toggles l row key = (box_owner l row ≡ Some (ids.ToggleBox (keys.Section key))) × (title_end l row ≡ columns_of l.kind)

-- row `row` names a section with a label, which is not empty: the label is its title, and as wide as that ends
pub record IsLabelledHeader (labels : List Label) (l : Live) (row : ℕ) (label : Screen) : Type 0 where
  pub key : SectionKey
  pub names : Folds l row key ⊎ Toggles l row key
  pub some : 0 < length (text_of labels key.file_idx key.section_idx)
  pub shows : label ≡ label_screen (title_end l row) (concat (line_pieces (text_of labels key.file_idx key.section_idx)))
  pub wide : label.width ≡ title_end l row
