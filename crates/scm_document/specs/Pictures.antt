-- The picture of each row of a document, and of its parts, row by row.
use Rattle.std.specs.Prelude.{ℕ, min, ◌==◌, ℤ, pos, codes, ◌+ℤ◌, ◌-ℤ◌, int_lt, List, [], ◌∷◌, length, Bool, false, ◌&&◌, if◌then◌else◌, Option, Some, None}
use Rattle.scm_cells.specs.Rect.{or_zero}
use Rattle.scm_cells.specs.declared.rect.Rect.{Rect}
use Rattle.scm_cells.specs.declared.mask.Mask.{Mask}
use Rattle.scm_render.specs.Picture.{nothing, followed_by, covering, part}
use Rattle.scm_render.specs.Canvas.{Sight, under}
use Rattle.scm_render.specs.Drawing.{reach, mask_or, row_rect, span_picture, text_picture, blank_picture}
use Rattle.scm_render.specs.Centring.{centred_rect}
use Rattle.scm_widgets.specs.declared.ids.ComponentId.{ComponentId}
use Rattle.scm_widgets.specs.declared.ids.ComponentId.TheVariants as ids
use Rattle.scm_widgets.specs.declared.button.Button.{Button}
use Rattle.scm_document.specs.declared.file_view_header.FileViewHeader.{FileViewHeader}
use Rattle.scm_document.specs.declared.section_line_view.SectionLineView.{SectionLineView}
use Rattle.scm_document.specs.declared.section_line_view.SectionLineViewInner.{SectionLineViewInner}
use Rattle.scm_document.specs.declared.section_line_view.SectionLineViewInner.TheVariants as inner
use Rattle.scm_document.specs.declared.section_view.SectionView.{SectionView}
use Rattle.scm_document.specs.declared.file_view.FileView.{FileView}
use Rattle.scm_document.specs.declared.commit_message_view.CommitMessageView.{CommitMessageView}
use Rattle.scm_document.specs.declared.commit_view.CommitView.{CommitView}
use Rattle.scm_document.specs.Texts.{number_text, sign_text, message_text, divider_text, no_files_text}
use Rattle.scm_widgets.specs.Boxes.{IdBox}
use Rattle.scm_rows.specs.Heights.{message_height}
use Rattle.scm_document.specs.Rows.{file_id, section_id, line_id, Heading, DocRow, HeaderRow, SectionRow, LineRow, MarkRow, ContextRow, DotsRow, BlankRow, ShownSection, ShownFile, Document, line_texts, header_heading, section_rows, shown_file, file_rows, document_of}
use Rattle.scm_widgets.specs.Pictures.{IdPicture, to_end, rest_of_row, blank_rest, whole_row, button_picture, box_part, fold_column, highlight}

-- how many columns there are from column x to the fold box
abbrev pub heading_width : Sight → ℤ → ℕ
heading_width s x = or_zero (fold_column s -ℤ x)

-- the mask of these columns on row y
abbrev pub heading_mask : Sight → ℤ → ℤ → Mask
heading_mask s x y = record { x = x; y = y; width = Some (heading_width s x); height = Some 1 }

-- `width` spaces, and over them a checkbox and a title
unfoldable pub title_picture : IdBox → List ℕ → ℕ → Sight → ℤ → ℤ → IdPicture
title_picture toggle title width s x y =
    followed_by (blank_picture s (row_rect x y width))
    (followed_by (box_part toggle s x y)
    (text_picture s (x +ℤ pos 4) y (title ∷ [])))

-- heading h: its fold box, and its checkbox and title in the columns before the fold box
unfoldable pub heading_picture : Heading → Sight → ℤ → ℤ → IdPicture
heading_picture h s x y =
    followed_by (box_part h.fold s (fold_column s) y)
    (title_picture h.toggle h.title (heading_width s x) (under (heading_mask s x y) s) x y)

-- ---- lines

-- a changed line, which covers all columns: its checkbox at column x, and its sign and text four columns to the right
unfoldable pub changed_picture : IdBox → List (List ℕ) → Sight → ℤ → ℤ → IdPicture
changed_picture b ts s x y = followed_by (covering (whole_row s y)) (followed_by (box_part b s x y) (text_picture s (x +ℤ pos 4) y ts))

-- a line of context, which covers all columns: its number and text
unfoldable pub context_picture : List (List ℕ) → Sight → ℤ → ℤ → IdPicture
context_picture ts s x y = followed_by (covering (whole_row s y)) (text_picture s x y ts)

-- a line of either kind
abbrev pub inner_picture : SectionLineViewInner → Sight → ℤ → ℤ → IdPicture
inner_picture (inner.Unchanged line number) s x y = context_picture (line_texts (number_text number) line.now) s x y
inner_picture (inner.Changed box change line) s x y = changed_picture box (line_texts (sign_text change) line.now) s x y

-- line view v
unfoldable pub line_picture : SectionLineView → Sight → ℤ → ℤ → IdPicture
line_picture v s x y = inner_picture v.inner s x y

-- a row: a section covers its rows from column x on, and a line covers all columns
unfoldable pub row_picture : DocRow → Sight → ℤ → ℤ → IdPicture
row_picture (HeaderRow key h) s x y = part (ids.FileViewHeader key) (heading_picture h s x y)
row_picture (SectionRow selected h) s x y = followed_by (heading_picture h s x y) (highlight selected s y)
row_picture (LineRow key b ts) s x y =
    followed_by (covering (rest_of_row s x y)) (part (line_id key) (changed_picture b ts s (x +ℤ pos 2) y))
row_picture (MarkRow selected b t) s x y =
    followed_by (covering (rest_of_row s x y))
    (followed_by (box_part b s x y)
    (followed_by (text_picture s (x +ℤ pos 4) y (t ∷ []))
    (highlight selected s y)))
row_picture (ContextRow key ts) s x y =
    followed_by (covering (rest_of_row s x y)) (part (line_id key) (context_picture ts s (x +ℤ pos 2) y))
row_picture (DotsRow t) s x y = followed_by (covering (rest_of_row s x y)) (span_picture s (x +ℤ pos 6) y t)
row_picture BlankRow s x y = blank_rest s x y

-- rows from row y on
unfoldable pub rows_picture : List DocRow → Sight → ℤ → ℤ → IdPicture
rows_picture [] s x y = nothing
rows_picture (r ∷ rs) s x y = followed_by (row_picture r s x y) (rows_picture rs s x (y +ℤ pos 1))

-- ---- headers, sections and files

-- file header v
unfoldable pub header_picture : FileViewHeader → Sight → ℤ → ℤ → IdPicture
header_picture v s x y = heading_picture (header_heading v) s x y

-- section v
unfoldable pub section_picture : SectionView → Sight → ℤ → ℤ → IdPicture
section_picture v s x y = rows_picture (section_rows v) s x y

-- sections from row y on, each a component with its rows
unfoldable pub sections_picture : List ShownSection → Sight → ℤ → ℤ → IdPicture
sections_picture [] s x y = nothing
sections_picture (p ∷ ps) s x y =
    followed_by (part (section_id p.key) (rows_picture p.rows s x y))
    (sections_picture ps s x (y +ℤ pos (length p.rows)))

-- file f: its header, and its sections two columns further in
unfoldable pub shown_file_picture : ShownFile → Sight → ℤ → ℤ → IdPicture
shown_file_picture f s x y =
    followed_by (row_picture (HeaderRow f.key f.heading) s x y) (sections_picture f.sections s (x +ℤ pos 2) (y +ℤ pos 1))

-- file view v
unfoldable pub file_picture : FileView → Sight → ℤ → ℤ → IdPicture
file_picture v s x y = shown_file_picture (shown_file v) s x y

-- ---- commits

-- the button that edits the message of a commit
abbrev pub edit_button : ℕ → Button ComponentId
edit_button commit = record { id = ids.CommitEditMessageButton commit; label = codes "Edit message"; is_focused = false }

-- a bullet and a text to the right of the edit button at column x
unfoldable pub beside_button : List ℕ → Sight → ℤ → ℤ → IdPicture
beside_button text s x y = followed_by (span_picture s (x +ℤ pos 15) y divider_text) (text_picture s (x +ℤ pos 19) y (text ∷ []))

-- the edit button, and the first line of the message to the right of it
unfoldable pub button_row_picture : ℕ → List ℕ → Sight → ℤ → ℤ → IdPicture
button_row_picture commit message s x y =
    followed_by (part (edit_button commit).id (button_picture (edit_button commit) s x y)) (beside_button (message_text message) s x y)

-- a message: a blank row, the row of its edit button, and a blank row; nothing if there is no message
unfoldable pub message_picture : ℕ → Option (List ℕ) → Sight → ℤ → ℤ → IdPicture
message_picture commit None s x y = nothing
message_picture commit (Some message) s x y =
    followed_by (blank_rest s x y)
    (followed_by (button_row_picture commit message s x (y +ℤ pos 1))
    (blank_rest s x (y +ℤ pos 2)))

-- the mask from column x to the end of the mask in sight, on all rows from row y on
abbrev pub file_mask : Sight → ℤ → ℤ → Mask
file_mask s x y = record { x = x; y = y; width = Some (to_end s x); height = None }

-- the mask from column x to the end of the mask in sight, on row y alone
abbrev pub pinned_mask : Sight → ℤ → ℤ → Mask
pinned_mask s x y = record { x = x; y = y; width = Some (to_end s x); height = Some 1 }

-- the first row that the mask shows
abbrev pub mask_row : Sight → ℤ
mask_row s = (mask_or s.mask s.rect).y

-- whether `row` is in y..y + rows, but not row y
abbrev pub is_pinned : ℤ → ℤ → ℕ → Bool
is_pinned row y rows = int_lt y row && int_lt row (y +ℤ pos rows)

-- the sticky header of file f on row y
abbrev pub pinned_header : ShownFile → Sight → ℤ → ℤ → IdPicture
pinned_header f s x y = row_picture (HeaderRow f.key f.heading) (under (pinned_mask s x y) s) x y

-- the sticky header of file f on the mask's first row, if the file begins above that row (on row y) and ends below it
unfoldable pub pinned_picture : ShownFile → Sight → ℤ → ℤ → IdPicture
pinned_picture f s x y = if is_pinned (mask_row s) y (length (file_rows f)) then pinned_header f s x (mask_row s) else nothing

-- file f, and its sticky header over it
unfoldable pub one_file_picture : ShownFile → Sight → ℤ → ℤ → IdPicture
one_file_picture f s x y =
    followed_by (part (file_id f.key) (shown_file_picture f (under (file_mask s x y) s) x y)) (pinned_picture f s x y)

-- files from row y on
unfoldable pub files_picture : List ShownFile → Sight → ℤ → ℤ → IdPicture
files_picture [] s x y = nothing
files_picture (f ∷ fs) s x y = followed_by (one_file_picture f s x y) (files_picture fs s x (y +ℤ pos (length (file_rows f))))

-- where the empty-state text is: centred in the columns and rows that the mask shows, at most 65,535 of each
abbrev pub no_files_place : Sight → Rect
no_files_place s =
    centred_rect (record { x = pos 0; y = pos 0; width = min (reach s).width 65535; height = min (reach s).height 65535 })
    (record { width = 29; height = 1 }) 50 50

-- the empty-state text
unfoldable pub no_files_picture : Sight → ℤ → ℤ → IdPicture
no_files_picture s x y = text_picture s (x +ℤ (no_files_place s).x) (y +ℤ (no_files_place s).y) (no_files_text ∷ [])

-- files from row `below` on, or the empty-state text if there are no files
abbrev pub body_picture : List ShownFile → Sight → ℤ → ℤ → ℤ → IdPicture
body_picture fs s x y below = if length fs == 0 then no_files_picture s x y else files_picture fs s x below

-- document d: its message, and its files below
unfoldable pub document_picture : Document → Sight → ℤ → ℤ → IdPicture
document_picture d s x y =
    followed_by (part ids.CommitMessageView (message_picture d.commit d.message s x y))
    (body_picture d.files s x y (y +ℤ pos (message_height d.message)))

-- message view v
unfoldable pub commit_message_picture : CommitMessageView → Sight → ℤ → ℤ → IdPicture
commit_message_picture v s x y = message_picture v.commit_idx v.commit.now.message s x y

-- commit view v
unfoldable pub commit_picture : CommitView → Sight → ℤ → ℤ → IdPicture
commit_picture v s x y = document_picture (document_of v) s x y
