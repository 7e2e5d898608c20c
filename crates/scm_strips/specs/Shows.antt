-- What each row of a document shows in an area of the screen, as puts in order: no masks, no boxes, no components. On all columns of a
-- screen, that is from column 0 on, these are the strips of the row.
use Rattle.std.specs.Prelude.{ℕ, ◌+◌, ◌-◌, ℤ, pos, ◌-ℤ◌, List, [], ◌∷◌}
use Rattle.scm_cells.specs.Row.{put}
use Rattle.scm_render.specs.Canvas.{Row}
use Rattle.scm_render.specs.Centring.{centred_gap}
use Rattle.scm_render.specs.Rows.{say_texts}
use Rattle.scm_widgets.specs.Blanks.{blanked}
use Rattle.scm_widgets.specs.Boxes.{IdBox}
use Rattle.scm_widgets.specs.Texts.{box_text, button_text}
use Rattle.scm_document.specs.Counts.{row_calls}
use Rattle.scm_document.specs.Texts.{divider_text, message_text, no_files_text}
use Rattle.scm_document.specs.Rows.{Heading, DocRow, HeaderRow, SectionRow, LineRow, MarkRow, ContextRow, DotsRow, BlankRow}
use Rattle.scm_document.specs.Pictures.{edit_button}
use Rattle.scm_strips.specs.declared.area.Area.{Area}

-- a row of a document: one of a file, or of what stands above or instead of the files
pub data AreaRow : Type 0 where
  -- a row of a file
  FileRow : DocRow → AreaRow
  -- the row of the edit button of this commit, with its message
  MessageRow : ℕ → List ℕ → AreaRow
  -- the row above or below it
  MarginRow : AreaRow
  -- the empty-state text
  WordsRow : AreaRow

-- all of w columns
abbrev pub whole : ℕ → Area
whole w = record { left = 0; width = w }

-- ---- puts in an area: columns are counted from its first one

-- the column of the screen behind the area
abbrev pub end_column : Area → ℕ
end_column a = a.left + a.width

-- texts ts from column c on, cut to the area, with an ellipsis in its last column if they are longer
abbrev pub say_in : Area → ℕ → List (List ℕ) → Row → Row
say_in a c ts row = say_texts row (pos (a.left + c)) ts a.left (end_column a)

-- text t from column c on, cut to the area
abbrev pub put_in : Area → ℕ → List ℕ → Row → Row
put_in a c t row = put row (pos (a.left + c)) t a.left (end_column a)

-- the columns from column c on, blanked
abbrev pub blank_in : Area → ℕ → Row → Row
blank_in a c row = blanked (a.left + c) (end_column a) row

-- the column of the screen where a fold box begins: three before the area's end, left of an area of fewer columns
abbrev pub fold_column : Area → ℤ
fold_column a = pos (end_column a) -ℤ pos 3

-- the column of the screen behind the columns of a heading before its fold box
abbrev pub title_column : Area → ℕ
title_column a = a.left + (a.width - 3)

-- heading h: its fold box at the area's end; before it, from column c on, a blank, its checkbox and its title
abbrev pub show_heading : Area → ℕ → Heading → Row → Row
show_heading a c h row =
    say_texts
    (put
    (blanked (a.left + c) (title_column a) (put row (fold_column a) (box_text h.fold) a.left (end_column a)))
    (pos (a.left + c)) (box_text h.toggle) (a.left + c) (title_column a))
    (pos (a.left + (c + 4))) (h.title ∷ []) (a.left + c) (title_column a)

-- ---- rows

-- a changed line: its checkbox and its texts
abbrev pub show_line : Area → IdBox → List (List ℕ) → Row → Row
show_line a b ts row = say_in a 8 ts (put_in a 4 (box_text b) row)

-- a mode or a binary: its checkbox and its text
abbrev pub show_mark : Area → IdBox → List ℕ → Row → Row
show_mark a b t row = say_in a 6 (t ∷ []) (put_in a 2 (box_text b) row)

-- the text of an edit button, which is the same for each commit
abbrev pub edit_text : List ℕ
edit_text = button_text (edit_button 0)

-- the row of a message: the edit button, a bullet, and the message's first line
abbrev pub show_message : Area → List ℕ → Row → Row
show_message a message row =
    say_in a 19 (message_text message ∷ []) (put_in a 15 divider_text (put row (pos a.left) edit_text a.left (end_column a)))

-- the empty-state text, in the middle of area a
abbrev pub show_words : Area → Row → Row
show_words a row = say_in a (centred_gap a.width 29 50) (no_files_text ∷ []) row

-- what a row of a file makes of the row of the screen
abbrev pub shows_row : Area → DocRow → Row → Row
shows_row a (HeaderRow key h) row = show_heading a 0 h row
shows_row a (SectionRow selected h) row = show_heading a 2 h row
shows_row a (LineRow key b ts) row = show_line a b ts row
shows_row a (MarkRow selected b t) row = show_mark a b t row
shows_row a (ContextRow key ts) row = say_in a 4 ts row
shows_row a (DotsRow t) row = put_in a 8 t row
shows_row a BlankRow row = blank_in a 2 row

-- what a row of a document makes of the row of the screen
abbrev pub shows : Area → AreaRow → Row → Row
shows a (FileRow d) row = shows_row a d row
shows a (MessageRow commit message) row = show_message a message row
shows a MarginRow row = blank_in a 0 row
shows a WordsRow row = show_words a row

-- the draw calls of a row: at most four
abbrev pub calls_of : AreaRow → ℕ
calls_of (FileRow d) = row_calls d
calls_of (MessageRow commit message) = 3
calls_of MarginRow = 1
calls_of WordsRow = 1
