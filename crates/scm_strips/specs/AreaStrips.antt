-- The document row by row in an area of the screen: what each row shows, and who owns its columns. Columns are those of the screen. On all
-- columns of a screen these are the strips of the document.
use Rattle.std.specs.Prelude.{ℕ, ◌+◌, ◌-◌, ◌==◌, max, pos, ◌-ℤ◌, List, [], ◌∷◌, ◌++◌, length, map, fold, Bool, cond, if◌then◌else◌, Option, Some, None}
use Rattle.std.specs.Int.{int_min}
use Rattle.scm_widgets.specs.declared.ids.ComponentId.{ComponentId}
use Rattle.scm_widgets.specs.Layers.{Strip, Layer, over}
use Rattle.scm_document.specs.Rows.{file_id, section_id, HeaderRow, ShownSection, ShownFile, Document, file_rows}
use Rattle.scm_document.specs.Strips.{only_shows, is_over, is_wide, no_files_gap}
use Rattle.scm_strips.specs.declared.area.Area.{Area}
use Rattle.scm_strips.specs.Shows.{AreaRow, FileRow, MessageRow, MarginRow, WordsRow, shows}
use Rattle.scm_strips.specs.Parts.{Part, owner_in, row_from, row_parts, row_reach}

-- ---- rows

-- row d in area a, without the section and the file that own the rest of it
abbrev pub area_strip : Area → AreaRow → Strip ComponentId
area_strip a d = record { shows = shows a d; owner = λ x. owner_in (row_parts a.width d) (pos x -ℤ pos a.left) }

-- strip s, where part p also owns its columns that have no owner in s
abbrev pub owned_in : Area → Part → Strip ComponentId → Strip ComponentId
owned_in a p s = over s (record { shows = λ row. row; owner = λ x. owner_in (p ∷ []) (pos x -ℤ pos a.left) })

-- ---- sections, files

-- the columns of section p on each of its rows, in an area of v columns: as wide as the widest of them
abbrev pub section_part : ℕ → ShownSection → Part
section_part v p = record {
  id = section_id p.key;
  from = fold int_min (if is_wide p.rows then pos 0 else pos 2) (map (row_from v) p.rows);
  to = pos (fold max v (map row_reach p.rows));
}

-- the columns of file f on each of its rows, in an area of v columns: as wide as the widest of them
abbrev pub file_part : ℕ → ShownFile → Part
file_part v f = record {
  id = file_id f.key;
  from = fold int_min (pos 0) (map (row_from v) (file_rows f));
  to = pos (fold max v (map row_reach (file_rows f)));
}

-- the strips of section p
unfoldable pub area_section : Area → ShownSection → List (Strip ComponentId)
area_section a p = map (λ d. owned_in a (section_part a.width p) (area_strip a (FileRow d))) p.rows

-- the strips of sections, from the top down
unfoldable pub area_sections : Area → List ShownSection → List (Strip ComponentId)
area_sections a [] = []
area_sections a (p ∷ ps) = area_section a p ++ area_sections a ps

-- the header's row of file f
abbrev pub area_header : Area → ShownFile → Strip ComponentId
area_header a f = area_strip a (FileRow (HeaderRow f.key f.heading))

-- the strips of file f, which owns what no part of it owns; its header has no parts if it is pinned elsewhere
unfoldable pub area_file : Area → Bool → ShownFile → List (Strip ComponentId)
area_file a pinned f =
    map (owned_in a (file_part a.width f)) (cond pinned (only_shows (area_header a f).shows) (area_header a f) ∷ area_sections a f.sections)

-- the strips of files from row `top` on; m is the row of the pinned header
unfoldable pub area_files : Area → ℕ → ℕ → List ShownFile → List (Strip ComponentId)
area_files a m top [] = []
area_files a m top (f ∷ fs) = area_file a (is_over m top f) f ++ area_files a m (top + length (file_rows f)) fs

-- the pinned header on row m, if any, of files from row `top` on
unfoldable pub area_pinned : Area → ℕ → ℕ → List ShownFile → List (Strip ComponentId)
area_pinned a m top [] = []
area_pinned a m top (f ∷ fs) = cond (is_over m top f) (area_header a f ∷ []) (area_pinned a m (top + length (file_rows f)) fs)

-- ---- documents

-- the rows of a message of commit k: a blank row, the row of the edit button, and a blank row; none if there is no message
unfoldable pub area_message : Area → ℕ → Option (List ℕ) → List (Strip ComponentId)
area_message a k None = []
area_message a k (Some message) = area_strip a MarginRow ∷ (area_strip a (MessageRow k message) ∷ (area_strip a MarginRow ∷ []))

-- the empty-state text, in the middle of area a and of h rows from row `top` on
abbrev pub area_words : Area → ℕ → ℕ → Layer ComponentId
area_words a h top = record { first = top + no_files_gap h; strips = area_strip a WordsRow ∷ [] }

-- a document without files: its message, if any, and the empty-state text over it
abbrev pub area_bare : Area → ℕ → ℕ → ℕ → Option (List ℕ) → List (Layer ComponentId)
area_bare a h top k None = area_words a h top ∷ []
area_bare a h top k (Some message) = record { first = top; strips = area_message a k (Some message) } ∷ (area_words a h top ∷ [])

-- a document with files: its message from row `top` on, and its files below
abbrev pub area_filled : Area → ℕ → ℕ → Document → Layer ComponentId
area_filled a m top d =
    let above = area_message a d.commit d.message in
    record { first = top; strips = above ++ area_files a m (top + length above) d.files }

-- document d from row `top` on, in area a and h rows; m is the row of the pinned header
abbrev pub area_document : Area → ℕ → ℕ → ℕ → Document → List (Layer ComponentId)
area_document a h m top d = cond (length d.files == 0) (area_bare a h top d.commit d.message) (area_filled a m top d ∷ [])

-- the pinned header on row m, over the document
abbrev pub area_pinned_layer : Area → ℕ → ℕ → Document → Layer ComponentId
area_pinned_layer a m top d =
    record { first = m; strips = area_pinned a m (top + length (area_message a d.commit d.message)) d.files }

-- a document on a screen of h rows, the first of which is the menu bar's and shows row s: its rows from row 1 on, and the pinned header
abbrev pub area_layers : Area → ℕ → ℕ → Document → List (Layer ComponentId)
area_layers a h s d = area_document a (h - 1) (s + 1) 1 d ++ (area_pinned_layer a (s + 1) 1 d ∷ [])
