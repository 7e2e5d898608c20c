-- The draw calls of the document's parts: the picture of each with its counts, both by what is in sight.
use Rattle.std.specs.Prelude.{ℕ, ℤ, pos, ◌+ℤ◌, List, Bool, Option}
use Rattle.scm_cells.specs.Counts.{plus}
use Rattle.scm_render.specs.Picture.{followed_by}
use Rattle.scm_render.specs.Draws.{DrawCall}
use Rattle.scm_render.specs.Drawing.{text_picture}
use Rattle.scm_widgets.specs.declared.ids.ComponentId.{ComponentId}
use Rattle.scm_document.specs.declared.section_view.SectionView.{SectionView}
use Rattle.scm_widgets.specs.Boxes.{IdBox}
use Rattle.scm_document.specs.Rows.{Heading, DocRow, SectionRow, MarkRow, ShownSection, ShownFile, is_selected, section_box, section_heading}
use Rattle.scm_document.specs.Pictures.{title_picture, heading_picture, row_picture, sections_picture, beside_button, button_row_picture, message_picture, mask_row, pinned_header, pinned_picture, one_file_picture, files_picture, no_files_picture, body_picture}
use Rattle.scm_widgets.specs.Pictures.{box_part}
use Rattle.scm_widgets.specs.Counts.{drawn, on_row}
use Rattle.scm_document.specs.Counts.{row_counts, header_counts, sections_counts, file_counts, pinned_counts, files_counts, message_counts, no_files_counts, body_counts}

-- a draw call with component ids
abbrev pub IdCall : Type 0
IdCall = DrawCall ComponentId

-- ---- headings

-- `width` spaces, and over them a checkbox and a title
abbrev pub title_call : IdBox → List ℕ → ℕ → ℤ → ℤ → IdCall
title_call toggle title width x y = record {
  picture = λ sight. title_picture toggle title width sight x y;
  counts = λ sight. on_row sight.rect y (drawn 0 3);
}

-- a heading
abbrev pub heading_call : Heading → ℤ → ℤ → IdCall
heading_call heading x y = record {
  picture = λ sight. heading_picture heading sight x y;
  counts = λ sight. on_row sight.rect y (drawn 0 4);
}

-- ---- lines

-- a changed line's checkbox at column x, and its sign and text four columns to the right
abbrev pub changed_line_call : IdBox → List (List ℕ) → ℤ → ℤ → IdCall
changed_line_call toggle texts x y = record {
  picture = λ sight. followed_by (box_part toggle sight x y) (text_picture sight (x +ℤ pos 4) y texts);
  counts = λ sight. on_row sight.rect y (drawn 0 2);
}

-- ---- rows, sections and files

-- a row of the document
abbrev pub row_call : DocRow → ℤ → ℤ → IdCall
row_call row x y = record {
  picture = λ sight. row_picture row sight x y;
  counts = λ sight. row_counts row sight.rect y;
}

-- the header of a section of changed lines
abbrev pub section_header_call : SectionView → ℤ → ℤ → IdCall
section_header_call view x y = row_call (SectionRow (is_selected view) (section_heading view)) x y

-- the only row of a `FileMode` or `Binary` section
abbrev pub mark_call : SectionView → Bool → List ℕ → ℤ → ℤ → IdCall
mark_call view checked text x y = row_call (MarkRow (is_selected view) (section_box view checked) text) x y

-- sections from row y on
abbrev pub sections_call : List ShownSection → ℤ → ℤ → IdCall
sections_call sections x y = record {
  picture = λ sight. sections_picture sections sight x y;
  counts = λ sight. sections_counts sections sight.rect y;
}

-- the sticky header of a file on row y
abbrev pub pinned_header_call : ShownFile → ℤ → ℤ → IdCall
pinned_header_call file x y = record {
  picture = λ sight. pinned_header file sight x y;
  counts = λ sight. header_counts sight.rect y;
}

-- the sticky header of a file that begins on row y, if it has one
abbrev pub pinned_call : ShownFile → ℤ → ℤ → IdCall
pinned_call file x y = record {
  picture = λ sight. pinned_picture file sight x y;
  counts = λ sight. pinned_counts file sight.rect (mask_row sight) y;
}

-- a file, and its sticky header over it
abbrev pub one_file_call : ShownFile → ℤ → ℤ → IdCall
one_file_call file x y = record {
  picture = λ sight. one_file_picture file sight x y;
  counts = λ sight. plus (file_counts file sight.rect y) (pinned_counts file sight.rect (mask_row sight) y);
}

-- files from row y on, with the sticky header
abbrev pub files_call : List ShownFile → ℤ → ℤ → IdCall
files_call files x y = record {
  picture = λ sight. files_picture files sight x y;
  counts = λ sight. files_counts files sight.rect (mask_row sight) y;
}

-- ---- commits

-- a bullet and a text to the right of the edit button
abbrev pub beside_button_call : List ℕ → ℤ → ℤ → IdCall
beside_button_call text x y = record {
  picture = λ sight. beside_button text sight x y;
  counts = λ sight. on_row sight.rect y (drawn 0 2);
}

-- the row of the edit button
abbrev pub button_row_call : ℕ → List ℕ → ℤ → ℤ → IdCall
button_row_call commit message x y = record {
  picture = λ sight. button_row_picture commit message sight x y;
  counts = λ sight. on_row sight.rect y (drawn 1 3);
}

-- a message, if there is one
abbrev pub message_call : ℕ → Option (List ℕ) → ℤ → ℤ → IdCall
message_call commit message x y = record {
  picture = λ sight. message_picture commit message sight x y;
  counts = λ sight. message_counts message sight.rect y;
}

-- the empty-state text
abbrev pub no_files_call : ℤ → ℤ → IdCall
no_files_call x y = record {
  picture = λ sight. no_files_picture sight x y;
  counts = λ sight. no_files_counts sight y;
}

-- files from row `below` on, or the empty-state text if there are no files
abbrev pub body_call : List ShownFile → ℤ → ℤ → ℤ → IdCall
body_call files x y below = record {
  picture = λ sight. body_picture files sight x y below;
  counts = λ sight. body_counts files sight y below;
}
