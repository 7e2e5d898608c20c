-- Who owns the columns of a row: the first of its parts that has the column. A part is an id and its columns, counted from the area's
-- first one. Parts are not cut at the area: they may begin left of it, and end behind it.
use Rattle.std.specs.Prelude.{ℕ, ◌+◌, ◌-◌, ◌==◌, min, max, ℤ, pos, ◌+ℤ◌, ◌-ℤ◌, ◌<ℤ◌, ◌^◌, int_le, int_lt, Bool, ◌&&◌, List, [], ◌∷◌, Option, Some, None, if◌then◌else◌}
use Rattle.std.specs.Int.{int_min, int_max}
use Rattle.scm_cells.specs.Clusters.{text_width}
use Rattle.scm_render.specs.Drawing.{texts_width}
use Rattle.scm_widgets.specs.declared.ids.ComponentId.{ComponentId}
use Rattle.scm_widgets.specs.declared.ids.ComponentId.TheVariants as ids
use Rattle.scm_types.specs.declared.keys.FileKey.{FileKey}
use Rattle.scm_types.specs.declared.keys.LineKey.{LineKey}
use Rattle.scm_document.specs.Rows.{DocRow, HeaderRow, SectionRow, LineRow, MarkRow, ContextRow, DotsRow, BlankRow, line_id}
use Rattle.scm_document.specs.Pictures.{edit_button}
use Rattle.scm_strips.specs.Shows.{AreaRow, FileRow, MessageRow, MarginRow, WordsRow}

-- the columns from..to of a row, with the component that owns them
pub record Part : Type 0 where
  -- the component
  pub id : ComponentId
  -- the first column
  pub from : ℤ
  -- the end of the columns, exclusive
  pub to : ℤ

-- whether column x is in from..to
abbrev pub is_between : ℤ → ℤ → ℤ → Bool
is_between from to x = int_le from x && int_lt x to

-- whether part p has column x
abbrev pub has_column : Part → ℤ → Bool
has_column p x = is_between p.from p.to x

-- a column that is far from the ends of what the machine can count
pub record IsNear (x : ℤ) : Type 0 where
  pub low : (pos 0 -ℤ pos (2 ^ 32)) <ℤ x
  pub high : x <ℤ pos (2 ^ 32)

-- the owner of column x among parts: that of the first part that has it
unfoldable pub owner_in : List Part → ℤ → Option ComponentId
owner_in [] x = None
owner_in (p ∷ ps) x = if has_column p x then Some p.id else owner_in ps x

-- three columns from column c on, of the component i
abbrev pub three : ℤ → ComponentId → Part
three c i = record { id = i; from = c; to = c +ℤ pos 3 }

-- ---- how far rows go

-- n columns as the machine counts them: held at the greatest number that it has. No column reaches that
abbrev pub counted : ℕ → ℕ
counted n = min n (2 ^ 64 - 1)

-- the end of texts of `width` columns from column c on; texts without a column end nowhere
abbrev pub end_of_texts : ℕ → ℕ → ℕ
end_of_texts c width = if width == 0 then 0 else c + width

-- the end of the texts of a row
abbrev pub row_reach : DocRow → ℕ
row_reach (HeaderRow key h) = end_of_texts 4 (text_width h.title)
row_reach (SectionRow selected h) = end_of_texts 6 (text_width h.title)
row_reach (LineRow key b ts) = end_of_texts 8 (texts_width ts)
row_reach (MarkRow selected b t) = end_of_texts 6 (text_width t)
row_reach (ContextRow key ts) = end_of_texts 4 (texts_width ts)
row_reach (DotsRow t) = end_of_texts 8 (text_width t)
row_reach BlankRow = 0

-- the column behind the title of a heading from column c on, in an area of v columns
abbrev pub title_end : ℕ → ℕ → ℤ
title_end v c = int_max (pos c) (pos v -ℤ pos 3)

-- the first column of a heading from column c on: c, or left of the area where that has fewer than four columns, of the fold box or of the
-- ellipsis of a title of `width` columns
abbrev pub heading_from : ℕ → ℕ → ℕ → ℤ
heading_from v c width =
    int_min (pos c)
    (int_min (pos v -ℤ pos 3)
    (if int_lt (title_end v c) (pos (c + 4 + width)) then title_end v c -ℤ pos 1 else pos c))

-- the first column of a row, in an area of v columns
abbrev pub row_from : ℕ → DocRow → ℤ
row_from v (HeaderRow key h) = heading_from v 0 (text_width h.title)
row_from v (SectionRow selected h) = heading_from v 2 (text_width h.title)
row_from v (LineRow key b ts) = pos 0
row_from v (MarkRow selected b t) = pos 2
row_from v (ContextRow key ts) = pos 0
row_from v (DotsRow t) = pos 2
row_from v BlankRow = pos 2

-- ---- the parts of rows

-- the boxes of a heading from column c on, in an area of v columns
abbrev pub heading_parts : ℕ → ℕ → ComponentId → ComponentId → List Part
heading_parts v c toggle fold = three (pos c) toggle ∷ (three (pos v -ℤ pos 3) fold ∷ [])

-- whether a header in an area of v columns, with a title of `width` columns, has column x
abbrev pub is_in_header : ℕ → ℕ → ℤ → Bool
is_in_header v width x = is_between (heading_from v 0 width) (pos (max 3 (max v (end_of_texts 4 width)))) x

-- the columns of a header of the file, in an area of v columns, for a title of `width` columns
abbrev pub header_part : ℕ → ComponentId → ℕ → Part
header_part v i width = record { id = i; from = heading_from v 0 width; to = pos (max 3 (max v (end_of_texts 4 width))) }

-- the parts of a header of file k, in an area of v columns, for a title of `width` columns
abbrev pub header_parts : ℕ → FileKey → ComponentId → ComponentId → ℕ → List Part
header_parts v k toggle fold width = three (pos 0) toggle ∷ (three (pos v -ℤ pos 3) fold ∷ (header_part v (ids.FileViewHeader k) width ∷ []))

-- the parts of a changed line k, in an area of v columns, for texts of `width` columns
abbrev pub changed_parts : ℕ → LineKey → ComponentId → ℕ → List Part
changed_parts v k toggle width =
    three (pos 4) toggle ∷ (record { id = line_id k; from = pos 0; to = pos (max 7 (max v (end_of_texts 8 width))) } ∷ [])

-- the part of a line of context k, in an area of v columns, for texts of `width` columns
abbrev pub context_part : ℕ → LineKey → ℕ → Part
context_part v k width = record { id = line_id k; from = pos 0; to = pos (max v (end_of_texts 4 width)) }

-- the parts of a row of a file, in an area of v columns
abbrev pub file_row_parts : ℕ → DocRow → List Part
file_row_parts v (HeaderRow key h) = header_parts v key h.toggle.id h.fold.id (text_width h.title)
file_row_parts v (SectionRow selected h) = heading_parts v 2 h.toggle.id h.fold.id
file_row_parts v (LineRow key b ts) = changed_parts v key b.id (texts_width ts)
file_row_parts v (MarkRow selected b t) = three (pos 2) b.id ∷ []
file_row_parts v (ContextRow key ts) = context_part v key (texts_width ts) ∷ []
file_row_parts v (DotsRow t) = []
file_row_parts v BlankRow = []

-- the part of the row of a message of commit k: the button that edits it
abbrev pub message_parts : ℕ → List Part
message_parts k = record { id = (edit_button k).id; from = pos 0; to = pos 14 } ∷ []

-- the parts of a row of a document, in an area of v columns
abbrev pub row_parts : ℕ → AreaRow → List Part
row_parts v (FileRow d) = file_row_parts v d
row_parts v (MessageRow commit message) = message_parts commit
row_parts v MarginRow = []
row_parts v WordsRow = []
