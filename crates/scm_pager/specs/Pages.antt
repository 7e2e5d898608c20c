-- What a pager shows: a page of lines, and the status row below them.
use Rattle.std.specs.Prelude.{ℕ, ◌+◌, ◌-◌, ◌==◌, pos, ◌-ℤ◌, Bool, true, false, List, [], ◌∷◌, ◌++◌, length, take, drop, codes, decimal, slice_get, if◌then◌else◌, Option, Some, None}
use Rattle.std.specs.List.{concat, list_any}
use Rattle.scm_types.specs.declared.file.File.{File}
use Rattle.scm_types.specs.Marks.{is_editable_section}
use Rattle.scm_cells.specs.Clusters.{text_width}
use Rattle.scm_cells.specs.Replaced.{line_pieces}
use Rattle.scm_cells.specs.Screen.{Screen, blank_screen, put_on}
use Rattle.scm_cells.specs.declared.style.Style.{Style}
use Rattle.scm_terminal.specs.Style.{plain_style}
use Rattle.scm_terminal.specs.StyledCell.{StyledCell, picture}
use Rattle.scm_pager.specs.declared.lines.SideLine.{SideLine}
use Rattle.scm_pager.specs.declared.pager.Pager.{Pager}
use Rattle.scm_pager.specs.Sides.{is_replaced, shown_lines}
use Rattle.scm_pager.specs.Windows.{capped, capped_length}

-- ---- the lines

-- a text, with replacements for the characters that a screen cannot show
abbrev pub shown_text : List ℕ → List ℕ
shown_text text = concat (line_pieces text)

-- the sign in the first two columns of a line: it is there by a mark
abbrev pub sign_of : Bool → SideLine → List ℕ
sign_of selected line = if line.is_marked then (if selected then codes "+ " else codes "- ") else codes "  "

-- the screen after a line on its row `row`: its sign, and its text from the columns to the left on
abbrev pub with_line : ℕ → Pager → ℕ → SideLine → Screen → Screen
with_line width p row line s =
    put_on (put_on s row (pos 0) (sign_of p.selected line) 0 width) row (pos 2 -ℤ pos p.left) (shown_text line.text) 2 width

-- the screen after lines, on the rows from `row` on
abbrev pub with_lines : ℕ → Pager → ℕ → List SideLine → Screen → Screen
with_lines width p row [] s = s
with_lines width p row (line ∷ lines) s = with_lines width p (row + 1) lines (with_line width p row line s)

-- the lines on a screen of `height` rows, of which the last one is the status row
abbrev pub page_lines : Pager → File → ℕ → List SideLine
page_lines p file height = take (height - 1) (drop p.top (shown_lines p.selected file))

-- ---- the status row

-- what the side is called
abbrev pub side_words : Bool → List ℕ
side_words selected = if selected then codes ": with the marked changes" else codes ": with the other changes"

-- whether a file has two sides: a section of it changes something
abbrev pub has_sides : File → Bool
has_sides file = list_any is_editable_section file.sections

-- what the shown side of a file is called; without a change there are no sides to name
abbrev pub shown_side : Bool → File → List ℕ
shown_side selected file = if has_sides file then side_words selected else []

-- what stands on the left of the status row
abbrev pub left_text : Pager → File → List ℕ
left_text p file = shown_text file.path ++ shown_side p.selected file

-- which lines are shown
abbrev pub lines_text : ℕ → ℕ → ℕ → List ℕ
lines_text top shown count =
    codes "  " ++ (decimal (capped (top + 1)) ++ (codes "-" ++ (decimal (capped (top + shown)) ++ (codes "/" ++ decimal count))))

-- which lines are shown, or why none are
abbrev pub place_text : Pager → File → List SideLine → List ℕ
place_text p file lines =
    if is_replaced p.selected file then codes "  binary contents"
    else if length lines == 0 then codes "  no lines"
    else lines_text p.top (length lines) (capped_length (shown_lines p.selected file))

-- what stands on the right of the status row
abbrev pub right_text : Pager → File → List SideLine → List ℕ
right_text p file lines = place_text p file lines ++ codes "  p: back"

-- the screen after texts on its row `row`: `right` at its end, and before it what has room of `left`
abbrev pub with_status : ℕ → ℕ → List ℕ → List ℕ → Screen → Screen
with_status width row left right s =
    put_on (put_on s row (pos 0) left 0 (width - text_width right)) row (pos (width - text_width right)) right 0 width

-- ---- the page

-- the page of `width` columns and `height` rows with these lines
abbrev pub page_of : Pager → File → ℕ → ℕ → List SideLine → Screen
page_of p file width height lines =
    if height == 0 then blank_screen width height
    else with_status width (height - 1) (left_text p file) (right_text p file lines) (with_lines width p 0 lines (blank_screen width height))

-- what a pager shows
abbrev pub page_screen : Pager → File → ℕ → ℕ → Screen
page_screen p file width height = page_of p file width height (page_lines p file height)

-- whether a line is there by a mark, if there is a line
abbrev pub is_marked : Option SideLine → Bool
is_marked None = false
is_marked (Some line) = line.is_marked

-- the style of a row: the status row is reversed, and lines that are there by a mark are bold
abbrev pub page_style : List SideLine → ℕ → ℕ → ℕ → Style
page_style lines status row column =
    if row == status then record plain_style { reversed = true } else if is_marked (slice_get lines row) then record plain_style { bold = true } else plain_style

-- the picture of what a pager shows
abbrev pub page_picture : Pager → File → ℕ → ℕ → List (List StyledCell)
page_picture p file width height =
    picture (page_style (page_lines p file height) (height - 1)) (page_screen p file width height)
