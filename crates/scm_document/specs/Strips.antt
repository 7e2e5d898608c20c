-- The document row by row: what each row shows, and who owns each of its columns. Columns are counted from 0 on a screen of w
-- columns; there are no masks and no boxes here.
use Rattle.std.specs.Prelude.{ℕ, pos, ◌+◌, ◌-◌, ◌==◌, nat_le, nat_lt, List, [], ◌∷◌, ◌++◌, length, map, Bool, true, false, ◌&&◌, ◌||◌, cond, Option, Some, None}
use Rattle.std.specs.List.{list_any}
use Rattle.scm_cells.specs.Row.{put}
use Rattle.scm_render.specs.Canvas.{Row}
use Rattle.scm_render.specs.Centring.{centred_gap}
use Rattle.scm_render.specs.Rows.{say_texts}
use Rattle.scm_widgets.specs.declared.ids.ComponentId.{ComponentId}
use Rattle.scm_widgets.specs.declared.ids.ComponentId.TheVariants as ids
use Rattle.scm_widgets.specs.Blanks.{blank_strip}
use Rattle.scm_widgets.specs.Layers.{Strip, Layer, over, owned, is_among}
use Rattle.scm_widgets.specs.Texts.{box_text, button_text}
use Rattle.scm_document.specs.Texts.{divider_text, message_text, no_files_text}
use Rattle.scm_widgets.specs.Boxes.{IdBox}
use Rattle.scm_document.specs.Rows.{file_id, section_id, line_id, Heading, DocRow, HeaderRow, SectionRow, LineRow, MarkRow, ContextRow, DotsRow, BlankRow, ShownSection, ShownFile, Document, file_rows}
use Rattle.scm_document.specs.Pictures.{edit_button}

-- the test that each column passes
abbrev pub everywhere : ℕ → Bool
everywhere x = true

-- a strip that shows f and owns nothing
abbrev pub only_shows : (Row → Row) → Strip ComponentId
only_shows f = record { shows = f; owner = λ x. None }

-- texts ts from column c on, clipped to columns low..high; they own nothing
abbrev pub text_strip : ℕ → List (List ℕ) → ℕ → ℕ → Strip ComponentId
text_strip c ts low high = only_shows (λ row. say_texts row (pos c) ts low high)

-- box b in columns c..c + 3, which it owns, clipped to columns low..high
abbrev pub box_strip : ℕ → IdBox → ℕ → ℕ → Strip ComponentId
box_strip c b low high = record {
  shows = λ row. put row (pos c) (box_text b) low high;
  owner = λ x. cond (is_among c 3 x) (Some b.id) None;
}

-- heading h: its fold box in the last three columns; before it, from column c on, a blank, its checkbox and its title
abbrev pub heading_strip : ℕ → ℕ → Heading → Strip ComponentId
heading_strip w c h =
    over (text_strip (c + 4) (h.title ∷ []) c (w - 3))
    (over (box_strip c h.toggle c (w - 3))
    (over (blank_strip c (w - 3))
    (box_strip (w - 3) h.fold 0 w)))

-- ---- rows

-- a row, without the section and the file that own the rest of it
unfoldable pub row_strip : ℕ → DocRow → Strip ComponentId
row_strip w (HeaderRow key h) = owned (ids.FileViewHeader key) everywhere (heading_strip w 0 h)
row_strip w (SectionRow selected h) = heading_strip w 2 h
row_strip w (LineRow key b ts) = owned (line_id key) everywhere (over (text_strip 8 ts 0 w) (box_strip 4 b 0 w))
row_strip w (MarkRow selected b t) = over (text_strip 6 (t ∷ []) 0 w) (box_strip 2 b 0 w)
row_strip w (ContextRow key ts) = owned (line_id key) everywhere (text_strip 4 ts 0 w)
row_strip w (DotsRow t) = only_shows (λ row. put row (pos 8) t 0 w)
row_strip w BlankRow = blank_strip 2 w

-- whether a row covers columns 0 and 1 too: a header, a line, or the first row of a selected section
abbrev pub is_whole : DocRow → Bool
is_whole (HeaderRow key h) = true
is_whole (SectionRow selected h) = selected
is_whole (LineRow key b ts) = true
is_whole (MarkRow selected b t) = selected
is_whole (ContextRow key ts) = true
is_whole (DotsRow t) = false
is_whole BlankRow = false

-- whether a section owns columns 0 and 1 of its rows: one of its rows covers them
abbrev pub is_wide : List DocRow → Bool
is_wide rows = list_any is_whole rows

-- whether a section owns column x of its rows where no part of it does
abbrev pub is_of_section : List DocRow → ℕ → Bool
is_of_section rows x = is_wide rows || nat_le 2 x

-- ---- sections, files

-- the strips of section p
unfoldable pub section_strips : ℕ → ShownSection → List (Strip ComponentId)
section_strips w p = map (owned (section_id p.key) (is_of_section p.rows)) (map (row_strip w) p.rows)

-- the strips of sections, from the top down
unfoldable pub sections_strips : ℕ → List ShownSection → List (Strip ComponentId)
sections_strips w [] = []
sections_strips w (p ∷ ps) = section_strips w p ++ sections_strips w ps

-- the header row of file f; no part of it owns columns there if the header is pinned elsewhere
abbrev pub header_strip : ℕ → Bool → ShownFile → Strip ComponentId
header_strip w pinned f = cond pinned (only_shows (row_strip w (HeaderRow f.key f.heading)).shows) (row_strip w (HeaderRow f.key f.heading))

-- the strips of file f, which owns what no part of it owns
unfoldable pub file_strips : ℕ → Bool → ShownFile → List (Strip ComponentId)
file_strips w pinned f = map (owned (file_id f.key) everywhere) (header_strip w pinned f ∷ sections_strips w f.sections)

-- ---- sticky headers: m is the first row that is drawn

-- whether file f, from row `top` on, begins above row m and ends below it
abbrev pub is_over : ℕ → ℕ → ShownFile → Bool
is_over m top f = nat_lt top m && nat_lt m (top + length (file_rows f))

-- the strips of files from row `top` on
unfoldable pub files_strips : ℕ → ℕ → ℕ → List ShownFile → List (Strip ComponentId)
files_strips w m top [] = []
files_strips w m top (f ∷ fs) = file_strips w (is_over m top f) f ++ files_strips w m (top + length (file_rows f)) fs

-- the sticky header on row m, if any, of files from row `top` on
unfoldable pub pinned_strips : ℕ → ℕ → ℕ → List ShownFile → List (Strip ComponentId)
pinned_strips w m top [] = []
pinned_strips w m top (f ∷ fs) =
    cond (is_over m top f) (row_strip w (HeaderRow f.key f.heading) ∷ []) (pinned_strips w m (top + length (file_rows f)) fs)

-- ---- messages

-- the edit button, a bullet, and the message's first line
abbrev pub message_strip : ℕ → ℕ → List ℕ → Strip ComponentId
message_strip w commit message =
    over (text_strip 19 (message_text message ∷ []) 0 w)
    (over (only_shows (λ row. put row (pos 15) divider_text 0 w)) (record {
      shows = λ row. put row (pos 0) (button_text (edit_button commit)) 0 w;
      owner = λ x. cond (is_among 0 14 x) (Some (edit_button commit).id) None;
    }))

-- a blank row, the row of the edit button, and a blank row; none if there is no message
unfoldable pub message_strips : ℕ → ℕ → Option (List ℕ) → List (Strip ComponentId)
message_strips w commit None = []
message_strips w commit (Some message) = blank_strip 0 w ∷ (message_strip w commit message ∷ (blank_strip 0 w ∷ []))

-- ---- the document of a commit: m is the first row that is drawn

-- the empty-state text, centred in w columns
abbrev pub no_files_strip : ℕ → Strip ComponentId
no_files_strip w = text_strip (centred_gap w 29 50) (no_files_text ∷ []) 0 w

-- how many rows are above the empty-state text, centred in h rows
abbrev pub no_files_gap : ℕ → ℕ
no_files_gap h = centred_gap h 1 50

-- the empty-state text, centred in w columns and in h rows from row `top` on
abbrev pub no_files_layer : ℕ → ℕ → ℕ → Layer ComponentId
no_files_layer w h top = record { first = top + no_files_gap h; strips = no_files_strip w ∷ [] }

-- a message from row `top` on
abbrev pub message_layer : ℕ → ℕ → ℕ → List ℕ → Layer ComponentId
message_layer w top commit message = record { first = top; strips = message_strips w commit (Some message) }

-- a document without files: its message, if any, and the empty-state text over it
abbrev pub no_files_layers : ℕ → ℕ → ℕ → ℕ → Option (List ℕ) → List (Layer ComponentId)
no_files_layers w h top commit None = no_files_layer w h top ∷ []
no_files_layers w h top commit (Some message) = message_layer w top commit message ∷ (no_files_layer w h top ∷ [])

-- a document with files: its message from row `top` on, and its files below
abbrev pub files_layer : ℕ → ℕ → ℕ → Document → Layer ComponentId
files_layer w m top d =
    let above = message_strips w d.commit d.message in
    record { first = top; strips = above ++ files_strips w m (top + length above) d.files }

-- document d from row `top` on, in w columns and h rows
abbrev pub document_layers : ℕ → ℕ → ℕ → ℕ → Document → List (Layer ComponentId)
document_layers w h m top d = cond (length d.files == 0) (no_files_layers w h top d.commit d.message) (files_layer w m top d ∷ [])

-- the sticky header on row m, over the document
abbrev pub pinned_layer : ℕ → ℕ → ℕ → Document → Layer ComponentId
pinned_layer w m top d = record { first = m; strips = pinned_strips w m (top + length (message_strips w d.commit d.message)) d.files }
