-- What rows of documents show is what the documents' layers show.
use Rattle.std.proofs.Common.{◌≡◌, ℕ, zero, suc, ◌+◌, ◌≤◌, Bool, true, false, ◌==◌, List, [], ◌∷◌, ◌++◌, length, map, get_or, refl, sym, ap, ap₂, ◌∙◌, arith, Option, Some, None, cond}
use Rattle.std.specs.Prelude.{pos, if◌then◌else◌, option_map, slice_get}
use Rattle.std.specs.Ordering.{int_eq}
use Rattle.std.proofs.lemmas.Bool.Decides.{nat_tests, Decides-int_eq}
use Rattle.std.proofs.lemmas.Int.{ints}
use Rattle.std.proofs.lemmas.List.{map-append}
use Rattle.scm_render.specs.Canvas.{Row}
use Rattle.scm_render.specs.Lines.{line}
use Rattle.scm_render.proofs.LineLemmas.{line-below, line-get}
use Rattle.scm_rows.specs.Heights.{message_height}
use Rattle.scm_widgets.specs.declared.ids.ComponentId.{ComponentId}
use Rattle.scm_widgets.specs.Layers.{Strip, clear, shown_by}
use Rattle.scm_widgets.proofs.DrawsStrips.{shows-line}
use Rattle.scm_document.specs.FilesRows.{files_rows}
use Rattle.scm_document.specs.Rows.{DocRow, HeaderRow, ShownSection, ShownFile, Document, file_rows, sections_rows}
use Rattle.scm_document.specs.Strips.{is_over, only_shows}
use Rattle.scm_strips.specs.declared.area.Area.{Area}
use Rattle.scm_strips.specs.AreaStrips.{area_strip, owned_in, section_part, file_part, area_section, area_sections, area_header, area_file, area_files, area_pinned, area_message, area_layers}
use Rattle.scm_strips.specs.Parts.{Part}
use Rattle.scm_strips.specs.Shows.{AreaRow, FileRow, WordsRow, shows, whole}
use Rattle.scm_strips.proofs.InlineLemmas.{shown-same}
use Rattle.scm_view.specs.Window.{body_layers}
use Rattle.scm_screen.specs.DocumentRows.{message_rows, row_in, file_over, header_of, words_row, with_shown, with_document}
use Rattle.scm_screen.proofs.InlineLemmas.{body-same}
use Rattle.scm_screen.proofs.MessageLemmas.{none_in}

-- what a strip shows
abbrev shows_of : Strip ComponentId → Row → Row
shows_of s = s.shows

-- ---- the strips of a document show its rows

message-shows : (a : Area) (k : ℕ) (m : Option (List ℕ)) → map shows_of (area_message a k m) ≡ map (shows a) (message_rows k m)
unfolding area_message
message-shows a k None = refl
message-shows a k (Some m) = refl

message-long : (a : Area) (k : ℕ) (m : Option (List ℕ)) → length (area_message a k m) ≡ message_height m
unfolding area_message
message-long a k None = refl
message-long a k (Some m) = refl

owned-shows : (a : Area) (p : Part) (ss : List (Strip ComponentId)) → map shows_of (map (owned_in a p) ss) ≡ map shows_of ss
owned-shows a p [] = refl
owned-shows a p (s ∷ ss) = ap (λ fs. s.shows ∷ fs) (owned-shows a p ss)

rows-shows : (a : Area) (p : Part) (ds : List DocRow) → map shows_of (map (λ d. owned_in a p (area_strip a (FileRow d))) ds) ≡ map (shows a) (map FileRow ds)
rows-shows a p [] = refl
rows-shows a p (d ∷ ds) = ap (λ fs. shows a (FileRow d) ∷ fs) (rows-shows a p ds)

sections-shows : (a : Area) (ps : List ShownSection) → map shows_of (area_sections a ps) ≡ map (shows a) (map FileRow (sections_rows ps))
unfolding area_sections area_section sections_rows
sections-shows a [] = refl
sections-shows a (p ∷ ps) =
    map-append shows_of (map (λ d. owned_in a (section_part a.width p) (area_strip a (FileRow d))) p.rows) (area_sections a ps)
    ∙ ap₂ (λ (fs gs : List (Row → Row)). fs ++ gs) (rows-shows a (section_part a.width p) p.rows) (sections-shows a ps)
    ∙ sym (map-append (shows a) (map FileRow p.rows) (map FileRow (sections_rows ps)))
    ∙ ap (map (shows a)) (sym (map-append FileRow p.rows (sections_rows ps)))

file-shows : (a : Area) (pinned : Bool) (f : ShownFile) → map shows_of (area_file a pinned f) ≡ map (shows a) (map FileRow (file_rows f))
unfolding area_file file_rows
file-shows a pinned f =
    owned-shows a (file_part a.width f) (cond pinned (only_shows (area_header a f).shows) (area_header a f) ∷ area_sections a f.sections) ∙ go pinned
  where
    go : (b : Bool) → shows_of (cond b (only_shows (area_header a f).shows) (area_header a f)) ∷ map shows_of (area_sections a f.sections)
        ≡ shows a (FileRow (HeaderRow f.key f.heading)) ∷ map (shows a) (map FileRow (sections_rows f.sections))
    go true = ap (λ fs. shows a (FileRow (HeaderRow f.key f.heading)) ∷ fs) (sections-shows a f.sections)
    go false = ap (λ fs. shows a (FileRow (HeaderRow f.key f.heading)) ∷ fs) (sections-shows a f.sections)

files-shows : (a : Area) (m top : ℕ) (fs : List ShownFile) → map shows_of (area_files a m top fs) ≡ map (shows a) (map FileRow (files_rows fs))
unfolding area_files files_rows
files-shows a m top [] = refl
files-shows a m top (f ∷ fs) =
    map-append shows_of (area_file a (is_over m top f) f) (area_files a m (top + length (file_rows f)) fs)
    ∙ ap₂ (λ (gs hs : List (Row → Row)). gs ++ hs) (file-shows a (is_over m top f) f) (files-shows a m (top + length (file_rows f)) fs)
    ∙ sym (map-append (shows a) (map FileRow (file_rows f)) (map FileRow (files_rows fs)))
    ∙ ap (map (shows a)) (sym (map-append FileRow (file_rows f) (files_rows fs)))

filled-shows : (a : Area) (m top k : ℕ) (message : Option (List ℕ)) (fs : List ShownFile)
    → map shows_of (area_message a k message ++ area_files a m top fs) ≡ map (shows a) (message_rows k message ++ map FileRow (files_rows fs))
filled-shows a m top k message fs =
    map-append shows_of (area_message a k message) (area_files a m top fs)
    ∙ ap₂ (λ (gs hs : List (Row → Row)). gs ++ hs) (message-shows a k message) (files-shows a m top fs)
    ∙ sym (map-append (shows a) (message_rows k message) (map FileRow (files_rows fs)))

-- ---- one row

row-of-line : (a : Area) (ds : List AreaRow) (z : ℕ) (row : Row) → get_or (map (shows a) ds) z (λ (r : Row). r) row ≡ with_shown a (slice_get ds z) row
row-of-line a [] z row = refl
row-of-line a (d ∷ ds) zero row = refl
row-of-line a (d ∷ ds) (suc z) row = row-of-line a ds z row

rows-line : (a : Area) (ds : List AreaRow) (z : ℕ) (row : Row) → line (λ (r : Row). r) (map (shows a) ds) (pos 1) (pos z) row ≡ with_shown a (row_in ds z) row
rows-line a ds zero row = ap (λ (f : Row → Row). f row) (line-below (λ (r : Row). r) (map (shows a) ds) (pos 1) (pos 0) (omega (arith, ints)))
rows-line a ds (suc z) row =
    let next : suc z ≡ 1 + z = omega arith in
    ap (λ (f : Row → Row). f row) (ap (λ k. line (λ (r : Row). r) (map (shows a) ds) (pos 1) (pos k)) next ∙ line-get (λ (r : Row). r) (map (shows a) ds) 1 z)
    ∙ row-of-line a ds z row

strips-row : (a : Area) (ss : List (Strip ComponentId)) (ds : List AreaRow) (z : ℕ) (row : Row) → map shows_of ss ≡ map (shows a) ds
    → (line clear ss (pos 1) (pos z)).shows row ≡ with_shown a (row_in ds z) row
strips-row a ss ds z row e =
    sym (shows-line ss (pos 1) (pos z) row) ∙ ap (λ (fs : List (Row → Row)). line (λ (r : Row). r) fs (pos 1) (pos z) row) e ∙ rows-line a ds z row

one-row : (a : Area) (d : AreaRow) (y z : ℕ) (row : Row) → (line clear (area_strip a d ∷ []) (pos y) (pos z)).shows row ≡ with_shown a (if z == y then Some d else None) row
unfolding line
one-row a d y z row = go (z == y) refl
  where
    go : (b : Bool) → (z == y) ≡ b → (cond (int_eq (pos z) (pos y)) (area_strip a d) clear).shows row ≡ with_shown a (if b then Some d else None) row
    go true e = let same : int_eq (pos z) (pos y) ≡ true = grind (arith, ints, nat_tests, e, Decides-int_eq (pos z) (pos y)) in rw same refl
    go false e = let other : int_eq (pos z) (pos y) ≡ false = grind (arith, ints, nat_tests, e, Decides-int_eq (pos z) (pos y)) in rw other refl

pinned-row : (a : Area) (m top z : ℕ) (fs : List ShownFile) (row : Row)
    → (line clear (area_pinned a m top fs) (pos m) (pos z)).shows row ≡ with_shown a (if z == m then option_map header_of (file_over m top fs) else None) row
unfolding area_pinned file_over line
pinned-row a m top z [] row = go (z == m)
  where
    go : (b : Bool) → row ≡ with_shown a (if b then None else None) row
    go true = refl
    go false = refl
pinned-row a m top z (f ∷ fs) row = go (is_over m top f) (pinned-row a m (top + length (file_rows f)) z fs row)
  where
    go : (b : Bool) → (line clear (area_pinned a m (top + length (file_rows f)) fs) (pos m) (pos z)).shows row
        ≡ with_shown a (if z == m then option_map header_of (file_over m (top + length (file_rows f)) fs) else None) row
        → (line clear (cond b (area_header a f ∷ []) (area_pinned a m (top + length (file_rows f)) fs)) (pos m) (pos z)).shows row
        ≡ with_shown a (if z == m then option_map header_of (cond b (Some f) (file_over m (top + length (file_rows f)) fs)) else None) row
    go true rest = one-row a (header_of f) m z row
    go false rest = rest

-- ---- the law

-- a document by its parts
abbrev made : ℕ → Option (List ℕ) → List ShownFile → Document
made k message files = record { commit = k; message = message; files = files }

layers-show : (a : Area) (h s z k : ℕ) (message : Option (List ℕ)) (fs : List ShownFile) (row : Row)
    → with_document a h s (made k message fs) z row ≡ shown_by (area_layers a h s (made k message fs)) z row
unfolding shown_by files_rows area_pinned area_message line
layers-show a h s z k None [] row =
    let words = if z == words_row h then Some WordsRow else None in
    ap (λ o. with_shown a words (with_shown a o row)) (none_in z) ∙ sym (one-row a WordsRow (words_row h) z row)
layers-show a h s z k (Some message) [] row =
    let words = if z == words_row h then Some WordsRow else None in
    let above = area_message a k (Some message) in
    sym (one-row a WordsRow (words_row h) z ((line clear above (pos 1) (pos z)).shows row)
    ∙ ap (with_shown a words) (strips-row a above (message_rows k (Some message)) z row (message-shows a k (Some message))))
layers-show a h s z k message (f ∷ fs) row =
    let top : 1 + length (area_message a k message) ≡ 1 + message_height message = ap (λ n. 1 + n) (message-long a k message) in
    let strips = area_message a k message ++ area_files a (s + 1) (1 + length (area_message a k message)) (f ∷ fs) in
    let inner = (line clear strips (pos 1) (pos z)).shows row in
    let some : (length (f ∷ fs) == 0) ≡ false = grind arith in
    rw some (sym (ap (λ t. (line clear (area_pinned a (s + 1) t (f ∷ fs)) (pos (s + 1)) (pos z)).shows inner) top
    ∙ pinned-row a (s + 1) (1 + message_height message) z (f ∷ fs) inner
    ∙ ap (with_shown a (if z == s + 1 then option_map header_of (file_over (s + 1) (1 + message_height message) (f ∷ fs)) else None))
    (strips-row a strips (message_rows k message ++ map FileRow (files_rows (f ∷ fs))) z row (filled-shows a (s + 1) (1 + length (area_message a k message)) k message (f ∷ fs)))))

pub rows-show-layers : (a : Area) (h s z : ℕ) (d : Document) (row : Row) → with_document a h s d z row ≡ shown_by (area_layers a h s d) z row
rows-show-layers a h s z d row = layers-show a h s z d.commit d.message d.files row

pub rows-show-inline : (w h s z : ℕ) (d : Document) (row : Row) → 10 ≤ w → with_document (whole w) h s d z row ≡ shown_by (body_layers w h s d) z row
rows-show-inline w h s z d row wide = rows-show-layers (whole w) h s z d row ∙ shown-same w z (area_layers (whole w) h s d) (body_layers w h s d) row (body-same w h s d wide)
