-- A range on the screen: its lines are set off, and the status row counts them.
use Rattle.std.specs.Prelude.{ℕ, Bool, true, false, not, ◌&&◌, ◌||◌, ◌==◌, List, [], ◌∷◌, ◌++◌, length, decimal, codes, Option, Some, None, if◌then◌else◌}
use Rattle.scm_types.specs.declared.keys.LineKey.{LineKey}
use Rattle.scm_types.specs.declared.keys.SelectionKey.{SelectionKey}
use Rattle.scm_types.specs.declared.keys.SelectionKey.TheVariants as keys
use Rattle.scm_cells.specs.declared.style.Style.{Style}
use Rattle.scm_record.specs.Live.{Live}
use Rattle.scm_record.specs.ShownLines.{line_on}
use Rattle.scm_front.specs.Keeping.{is_none}
use Rattle.scm_front.specs.declared.layer.Front.{Front}
use Rattle.scm_front_items.specs.Ranges.{files_among, is_between, lines_between}
use Rattle.scm_front_paint.specs.Words.{is_bare}

-- whether a range is begun at a key
abbrev pub is_begun : SelectionKey → Bool
is_begun anchor = not (is_none anchor)

-- whether a line, if there is one, is in the range from `anchor` to `selection`
abbrev pub in_range : SelectionKey → SelectionKey → Option LineKey → Bool
in_range anchor selection None = false
in_range anchor selection (Some key) = is_between anchor selection (keys.Line key)

-- whether row `row` of the screen shows a line of the range from `anchor` to the selection, if nothing lies over the lines
abbrev pub has_line : Live → SelectionKey → ℕ → Bool
has_line l anchor row = is_bare l && in_range anchor l.session.shown.selection (line_on l row)

-- the same, if a range is begun at `anchor`
abbrev pub has_row : Live → SelectionKey → ℕ → Bool
has_row l anchor row = if is_begun anchor then has_line l anchor row else false

-- each place of such a row is underlined
abbrev pub underlined_if : Bool → Style → Style
underlined_if is_in style = record style { underlined = style.underlined || is_in }

-- the word for a count
abbrev pub word_for : ℕ → List ℕ → List ℕ → List ℕ
word_for n one more = if n == 1 then one else more

-- a count with its word
abbrev pub counted : ℕ → List ℕ → List ℕ → List ℕ
counted n one more = decimal n ++ (codes " " ++ word_for n one more)

-- what is said of a range of `lines` lines in `files` files
abbrev pub range_words : ℕ → ℕ → List ℕ
range_words lines files =
    codes "range: "
    ++ (counted lines (codes "line") (codes "lines")
    ++ (codes " in " ++ (counted files (codes "file") (codes "files") ++ codes "; space marks it, esc ends it")))

-- the lines of the range of a front, folded ones too
abbrev pub range_lines : Front → List SelectionKey
range_lines f = lines_between f.kept.anchor f.beneath.session.shown.selection f.beneath.session.shown.state.files

-- what the status row says of it
abbrev pub range_text : Front → List ℕ
range_text f = range_words (length (range_lines f)) (files_among None (range_lines f))
