-- The status row below a session: what it says, and what it shows.
use Rattle.std.specs.Prelude.{◌≡◌, ℕ, ◌+◌, ◌-◌, min, nat_le, ◌==◌, ℤ, Bool, true, false, List, [], ◌∷◌, ◌++◌, decimal, codes, slice_get, pos, ◌-ℤ◌, if◌then◌else◌, Option, Some, None}
use Rattle.std.specs.List.{concat}
use Rattle.scm_types.specs.declared.file.File.{File}
use Rattle.scm_types.specs.declared.line.SectionChangedLine.{SectionChangedLine}
use Rattle.scm_types.specs.declared.section.Section.{Section}
use Rattle.scm_types.specs.declared.section.Section.TheVariants as sections
use Rattle.scm_types.specs.declared.keys.SelectionKey.{SelectionKey}
use Rattle.scm_types.specs.declared.keys.SelectionKey.TheVariants as keys
use Rattle.scm_cells.specs.Clusters.{text_width}
use Rattle.scm_cells.specs.Replaced.{line_pieces}
use Rattle.scm_cells.specs.Screen.{Screen, blank_screen, put_on}
use Rattle.scm_cells.specs.declared.style.Style.{Style}
use Rattle.scm_terminal.specs.Style.{plain_style}
use Rattle.scm_terminal.specs.StyledCell.{StyledCell, picture}
use Rattle.scm_selection.specs.Counts.{changed_count}
use Rattle.scm_record.specs.Marked.{checked_lines}
use Rattle.scm_front.specs.declared.kept.Notice.{Notice}
use Rattle.scm_front.specs.declared.kept.Notice.TheVariants.{Nothing, Pressed, Asking, NotFound, FromTop, FromEnd, Range, NoLine, NoMessage, Undone, Redone, NothingToUndo, NothingToRedo, NotRestored}
use Rattle.scm_front.specs.declared.layer.Front.{Front}
use Rattle.scm_front.specs.Fronts.{notice_of}
use Rattle.scm_front_paint.specs.declared.status.LeftKind.{LeftKind}
use Rattle.scm_front_paint.specs.declared.status.LeftKind.TheVariants.{Typed, Said, Item}
use Rattle.scm_front_paint.specs.declared.status.LeftText.{LeftText}
use Rattle.scm_front_paint.specs.Capped.{capped}
use Rattle.scm_front_paint.specs.LineEnds.{ShowsEnd}
use Rattle.scm_front_paint.specs.Range.{range_text}

-- ---- what it says

-- the text of a line, if there is one
abbrev pub text_of_line : Option SectionChangedLine → List ℕ
text_of_line None = []
text_of_line (Some line) = line.line

-- the text of changed line `line` of a section, if it has one
abbrev pub text_in_section : Option Section → ℕ → List ℕ
text_in_section None line = []
text_in_section (Some (sections.Unchanged lines)) line = []
text_in_section (Some (sections.Changed lines)) line = text_of_line (slice_get lines line)
text_in_section (Some (sections.FileMode is_checked mode)) line = []
text_in_section (Some (sections.Binary is_checked old new)) line = []

-- the text of changed line `line` of section `section` of a file, if it has one
abbrev pub text_in_file : Option File → ℕ → ℕ → List ℕ
text_in_file None section line = []
text_in_file (Some file) section line = text_in_section (slice_get file.sections section) line

-- the text of changed line `line` of section `section` of file `file`, counted from 0, or an empty text
abbrev pub line_text : List File → ℕ → ℕ → ℕ → List ℕ
line_text files file section line = text_in_file (slice_get files file) section line

-- the path of a file, if there is one
abbrev pub path_of_file : Option File → List ℕ
path_of_file None = []
path_of_file (Some file) = file.path

-- the path of file `file`, or an empty text
abbrev pub path_text : List File → ℕ → List ℕ
path_text files file = path_of_file (slice_get files file)

-- the text of the item that a key names: the path of a file, the text of a changed line
abbrev pub text_of_key : List File → SelectionKey → List ℕ
text_of_key files keys.None = []
text_of_key files (keys.File key) = path_text files key.file_idx
text_of_key files (keys.Section key) = []
text_of_key files (keys.Line key) = line_text files key.file_idx key.section_idx key.line_idx

-- what the layer says of the last key; nothing, if a text is asked for or was not found, or a range is begun, which have texts of their own
abbrev pub text_of_notice : Notice → List ℕ
text_of_notice Nothing = []
text_of_notice Pressed = []
text_of_notice Asking = []
text_of_notice NotFound = []
text_of_notice FromTop = codes "search goes on at the top"
text_of_notice FromEnd = codes "search goes on at the end"
text_of_notice Range = []
text_of_notice NoLine = codes "a range begins at a line"
text_of_notice NoMessage = codes "no message to edit"
text_of_notice Undone = codes "undone"
text_of_notice Redone = codes "done again"
text_of_notice NothingToUndo = codes "nothing to undo"
text_of_notice NothingToRedo = codes "nothing to do again"
text_of_notice NotRestored = codes "not restored; nothing is left to undo"

-- whether it says that a range is begun
abbrev pub is_range : Notice → Bool
is_range Nothing = false
is_range Pressed = false
is_range Asking = false
is_range NotFound = false
is_range FromTop = false
is_range FromEnd = false
is_range Range = true
is_range NoLine = false
is_range NoMessage = false
is_range Undone = false
is_range Redone = false
is_range NothingToUndo = false
is_range NothingToRedo = false
is_range NotRestored = false

-- what the layer says of the last key, or of a range
abbrev pub said_text : Front → List ℕ
said_text f = if is_range (notice_of f) then range_text f else text_of_notice (notice_of f)

-- the selected item, with replacements for what a screen cannot show
abbrev pub item_text : Front → List ℕ
item_text f = concat (line_pieces (text_of_key f.beneath.session.shown.state.files f.beneath.session.shown.selection))

-- a text on the left
abbrev pub on_left : LeftKind → List ℕ → LeftText
on_left kind text = record { kind = kind; text = text }

-- what is said, or the item if nothing is
abbrev pub said_or : List ℕ → List ℕ → LeftText
said_or [] item = on_left Item item
said_or (c ∷ cs) item = on_left Said (c ∷ cs)

-- what stands on the left: the text that is typed, that nothing was found, the keys of the layer while the help is open, what the layer
-- says of the last key, or the selected item
abbrev pub left_of : Front → LeftText
left_of f =
    if f.query.is_asking then on_left Typed (codes "/" ++ f.query.typed)
    else if f.query.is_missing then on_left Said (codes "not found: " ++ f.query.sought)
    else if f.beneath.session.shown.is_help_open then
    on_left Said (codes "/ n N: search  v: range  u ctrl-r: undo, redo  < >: sideways")
    else said_or (said_text f) (item_text f)

-- whether it is the selected item
abbrev pub is_item : LeftKind → Bool
is_item Typed = false
is_item Said = false
is_item Item = true

-- a text of this kind shows in `columns` columns what `whole` shows: it is the same, or the end of the selected item, which loses its beginning
abbrev pub ShowsText : LeftKind → ℕ → List ℕ → List ℕ → Type 0
ShowsText Typed columns text whole = text ≡ whole
ShowsText Said columns text whole = text ≡ whole
ShowsText Item columns text whole = ShowsEnd columns text whole

-- a text on the left shows in `columns` columns what another one shows
pub record ShowsLeft (columns : ℕ) (l whole : LeftText) : Type 0 where
  pub kind : l.kind ≡ whole.kind
  pub text : ShowsText whole.kind columns l.text whole.text

-- the columns that a text on the left has before all else: what is typed or said as many as it is wide, the selected item none
abbrev pub columns_before : LeftText → ℕ
columns_before l = if is_item l.kind then 0 else text_width l.text

-- a text if it fits into `room` columns, or else another one
abbrev pub fit_or : ℕ → List ℕ → List ℕ → List ℕ
fit_or room text other = if nat_le (text_width text) room then text else other

-- how many columns of the window stand to the left of the terminal: nothing, if none does
abbrev pub sideways_text : ℕ → List ℕ
sideways_text x = if x == 0 then [] else codes "  >" ++ decimal x

-- the same, and how many lines and files are marked
abbrev pub counts_text : ℕ → ℕ → ℕ → List ℕ
counts_text x lines files = sideways_text x ++ (codes "  lines: " ++ (decimal lines ++ (codes ", files: " ++ decimal files)))

-- the counts if they fit into `room` columns, or else the columns to the left
abbrev pub short_text : ℕ → ℕ → List ℕ → List ℕ
short_text room x counts = fit_or room counts (fit_or room (sideways_text x) [])

-- the counts, keys and what accepting does; if they do not fit, the keys are left out first
abbrev pub long_text : ℕ → ℕ → List ℕ → List ℕ → List ℕ
long_text room x counts accept =
    fit_or room (counts ++ (codes "  /: search  ?: help  " ++ accept)) (fit_or room (counts ++ (codes "  " ++ accept)) (short_text room x counts))

-- What stands on the right within `room` columns: the columns to the left, how many lines and files are marked, keys, and what accepting
-- does. If it does not fit, the keys are left out first, then what accepting does, then the counts.
abbrev pub right_text : ℕ → ℕ → ℕ → ℕ → List ℕ → List ℕ
right_text room x lines files accept = long_text room x (counts_text x lines files) accept

-- that of a front, on a row of `width` columns with `l` on the left, while `x` columns stand to the left of the terminal; while the help
-- is open, only what accepting does
abbrev pub right_of : Front → ℕ → LeftText → ℕ → List ℕ → List ℕ
right_of f width l x accept =
    let room = width - columns_before l in
    if f.beneath.session.shown.is_help_open then fit_or room (codes "  " ++ accept) []
    else right_text room x (capped (checked_lines f.beneath.session.shown.state.files)) (changed_count f.beneath.session.shown.state) accept

-- ---- what it shows

-- the column of a text of which the first `over` columns have no room; no text is as wide as the limit
abbrev pub tail_column : ℕ → ℤ
tail_column over = pos 0 -ℤ pos (min over 1000000000)

-- the column of the text on the left, of which `over` columns have no room: what is said loses its end, all else its beginning
abbrev pub left_column : LeftKind → ℕ → ℤ
left_column Typed over = tail_column over
left_column Said over = pos 0
left_column Item over = tail_column over

-- A screen of `width` columns and `height` rows below which the status row stands: the right text ends at the last column, and before it
-- stands the left one, or the part of it that has room.
abbrev pub status_screen : ℕ → ℕ → LeftText → List ℕ → Screen
status_screen width height l right =
    let room = width - text_width right in
    put_on
    (put_on (blank_screen width (height + 1)) height (left_column l.kind (text_width l.text - room)) l.text 0 room)
    height (pos room) right 0 width

-- the status row is reversed
abbrev pub status_style : ℕ → ℕ → ℕ → Style
status_style height row column = if row == height then record plain_style { reversed = true } else plain_style

-- the picture of the status row, and blanks above it
abbrev pub status_picture : ℕ → ℕ → LeftText → List ℕ → List (List StyledCell)
status_picture width height l right = picture (status_style height) (status_screen width height l right)
