-- Each strip of the document leaves a row as long as it was.
use Rattle.std.proofs.Common.{◌≡◌, ℕ, ◌+◌, ◌-◌, ◌≤◌, Bool, true, false, cond, List, [], ◌∷◌, ◌++◌, length, map, ◌∙◌, arith}
use Rattle.std.specs.Prelude.{ℤ, pos, ◌+ℤ◌, ◌-ℤ◌, ◌==◌, int_lt, if◌then◌else◌, Option, Some, None}
use Rattle.std.specs.Ordering.{int_eq}
use Rattle.scm_cells.specs.Clusters.{text_width}
use Rattle.scm_cells.specs.Row.{put, ellipsis}
use Rattle.scm_cells.proofs.PutLemmas.{length-put}
use Rattle.scm_render.specs.Canvas.{Row}
use Rattle.scm_render.specs.Drawing.{texts_width}
use Rattle.scm_render.specs.Lines.{line}
use Rattle.scm_render.specs.Rows.{put_texts, say_texts}
use Rattle.scm_widgets.specs.declared.ids.ComponentId.{ComponentId}
use Rattle.scm_widgets.specs.Texts.{box_text, button_text}
use Rattle.scm_document.specs.Texts.{divider_text, message_text, no_files_text}
use Rattle.scm_document.specs.Rows.{Heading, DocRow, HeaderRow, SectionRow, LineRow, MarkRow, ContextRow, DotsRow, BlankRow, ShownSection, ShownFile, Document, section_id, file_rows}
use Rattle.scm_document.specs.Pictures.{edit_button}
use Rattle.scm_widgets.specs.Blanks.{blanked}
use Rattle.scm_widgets.specs.Layers.{Strip, Layer, clear, owned, strip_at, shown_by}
use Rattle.scm_document.specs.Strips.{heading_strip, row_strip, is_of_section, everywhere, section_strips, sections_strips, header_strip, file_strips, is_over, files_strips, message_strips, no_files_strip, no_files_layers, files_layer, document_layers}

abbrev Keeps : {K : Type 0} → ℕ → Strip K → Type 0
Keeps w s = (row : Row) → length row ≡ w → length (s.shows row) ≡ w

-- ---- texts

put-keeps : (w : ℕ) (row : Row) (column : ℤ) (t : List ℕ) (low high : ℕ) → high ≤ w → length row ≡ w → length (put row column t low high) ≡ w
put-keeps w row column t low high p e = length-put row column t low high (omega (arith, p, e)) ∙ e

texts-keep : (w : ℕ) (row : Row) (column : ℤ) (ts : List (List ℕ)) (low high : ℕ) → high ≤ w → length row ≡ w → length (put_texts row column ts low high) ≡ w
unfolding put_texts
texts-keep w row column [] low high p e = e
texts-keep w row column (t ∷ ts) low high p e = texts-keep w (put row column t low high) (column +ℤ pos (text_width t)) ts low high p (put-keeps w row column t low high p e)

say-keeps : (w : ℕ) (row : Row) (column : ℤ) (ts : List (List ℕ)) (low high : ℕ) → high ≤ w → length row ≡ w → length (say_texts row column ts low high) ≡ w
unfolding say_texts
say-keeps w row column ts low high p e = go (int_lt (pos high) (column +ℤ pos (texts_width ts))) (texts-keep w row column ts low high p e)
  where
    go : (b : Bool) → length (put_texts row column ts low high) ≡ w
        → length (if b then put (put_texts row column ts low high) (pos high -ℤ pos 1) ellipsis low high else put_texts row column ts low high) ≡ w
    go true f = put-keeps w (put_texts row column ts low high) (pos high -ℤ pos 1) ellipsis low high p f
    go false f = f

-- ---- rows

heading-keeps : (w c : ℕ) (h : Heading) → Keeps w (heading_strip w c h)
heading-keeps w c h row e =
    let within : w - 3 ≤ w = omega arith in
    let all : w ≤ w = omega arith in
    say-keeps w _ (pos (c + 4)) (h.title ∷ []) c (w - 3) within
    (put-keeps w _ (pos c) (box_text h.toggle) c (w - 3) within (put-keeps w _ (pos c) _ c (w - 3) within (put-keeps w row (pos (w - 3)) (box_text h.fold) 0 w all e)))

row-keeps : (w : ℕ) (d : DocRow) → Keeps w (row_strip w d)
unfolding row_strip
row-keeps w (HeaderRow key h) row e = heading-keeps w 0 h row e
row-keeps w (SectionRow selected h) row e = heading-keeps w 2 h row e
row-keeps w (LineRow key b ts) row e = say-keeps w _ (pos 8) ts 0 w (omega arith) (put-keeps w row (pos 4) (box_text b) 0 w (omega arith) e)
row-keeps w (MarkRow selected b t) row e = say-keeps w _ (pos 6) (t ∷ []) 0 w (omega arith) (put-keeps w row (pos 2) (box_text b) 0 w (omega arith) e)
row-keeps w (ContextRow key ts) row e = say-keeps w row (pos 4) ts 0 w (omega arith) e
row-keeps w (DotsRow t) row e = put-keeps w row (pos 8) t 0 w (omega arith) e
row-keeps w BlankRow row e = put-keeps w row (pos 2) _ 2 w (omega arith) e

-- ---- strips on consecutive rows

abbrev AllKeep : ℕ → List (Strip ComponentId) → Type 0
AllKeep w [] = Unit {0}
AllKeep w (s ∷ ss) = Keeps w s × AllKeep w ss

all-append : (w : ℕ) (ss ts : List (Strip ComponentId)) → AllKeep w ss → AllKeep w ts → AllKeep w (ss ++ ts)
all-append w [] ts h k = k
all-append w (s ∷ ss) ts h k = (h.0, all-append w ss ts h.1 k)

all-owned : (w : ℕ) (i : ComponentId) (test : ℕ → Bool) (ss : List (Strip ComponentId)) → AllKeep w ss → AllKeep w (map (owned i test) ss)
all-owned w i test [] h = tt
all-owned w i test (s ∷ ss) h = (h.0, all-owned w i test ss h.1)

all-rows : (w : ℕ) (ds : List DocRow) → AllKeep w (map (row_strip w) ds)
all-rows w [] = tt
all-rows w (d ∷ ds) = (row-keeps w d, all-rows w ds)

all-sections : (w : ℕ) (ps : List ShownSection) → AllKeep w (sections_strips w ps)
unfolding sections_strips section_strips
all-sections w [] = tt
all-sections w (p ∷ ps) =
    all-append w _ (sections_strips w ps) (all-owned w (section_id p.key) (is_of_section p.rows) (map (row_strip w) p.rows) (all-rows w p.rows)) (all-sections w ps)

header-keeps : (w : ℕ) (pinned : Bool) (f : ShownFile) → Keeps w (header_strip w pinned f)
header-keeps w true f = row-keeps w (HeaderRow f.key f.heading)
header-keeps w false f = row-keeps w (HeaderRow f.key f.heading)

all-file : (w : ℕ) (pinned : Bool) (f : ShownFile) → AllKeep w (file_strips w pinned f)
unfolding file_strips
all-file w pinned f = (header-keeps w pinned f, all-owned w _ everywhere (sections_strips w f.sections) (all-sections w f.sections))

all-files : (w m top : ℕ) (fs : List ShownFile) → AllKeep w (files_strips w m top fs)
unfolding files_strips
all-files w m top [] = tt
all-files w m top (f ∷ fs) =
    all-append w (file_strips w (is_over m top f) f) (files_strips w m (top + length (file_rows f)) fs) (all-file w (is_over m top f) f) (all-files w m (top + length (file_rows f)) fs)

all-message : (w commit : ℕ) (message : Option (List ℕ)) → AllKeep w (message_strips w commit message)
unfolding message_strips
all-message w commit None = tt
all-message w commit (Some message) = (blank-keeps, (message-keeps, (blank-keeps, tt)))
  where
    blank-keeps : (row : Row) → length row ≡ w → length (blanked 0 w row) ≡ w
    blank-keeps row e = put-keeps w row (pos 0) _ 0 w (omega arith) e

    message-keeps : (row : Row) → length row ≡ w
        → length (say_texts (put (put row (pos 0) (button_text (edit_button commit)) 0 w) (pos 15) divider_text 0 w) (pos 19) (message_text message ∷ []) 0 w) ≡ w
    message-keeps row e =
        say-keeps w _ (pos 19) (message_text message ∷ []) 0 w (omega arith)
        (put-keeps w _ (pos 15) divider_text 0 w (omega arith) (put-keeps w row (pos 0) (button_text (edit_button commit)) 0 w (omega arith) e))

line-keeps : (w : ℕ) (ss : List (Strip ComponentId)) (y z : ℤ) → AllKeep w ss → Keeps w (line clear ss y z)
unfolding line
line-keeps w [] y z h row e = e
line-keeps w (s ∷ ss) y z h row e = go (int_eq z y) (h.0 row e) (line-keeps w ss (y +ℤ pos 1) z h.1 row e)
  where
    go : (b : Bool) → length (s.shows row) ≡ w → length ((line clear ss (y +ℤ pos 1) z).shows row) ≡ w → length ((cond b s (line clear ss (y +ℤ pos 1) z)).shows row) ≡ w
    go true p q = p
    go false p q = q

-- ---- layers

abbrev LayersKeep : ℕ → List (Layer ComponentId) → Type 0
LayersKeep w [] = Unit {0}
LayersKeep w (l ∷ ls) = AllKeep w l.strips × LayersKeep w ls

-- layers leave a row as long as it was
layers-keep : (w : ℕ) (ls : List (Layer ComponentId)) (z : ℕ) (row : Row) → LayersKeep w ls → length row ≡ w → length (shown_by ls z row) ≡ w
unfolding shown_by
layers-keep w [] z row h e = e
layers-keep w (l ∷ ls) z row h e = layers-keep w ls z ((strip_at z l).shows row) h.1 (line-keeps w l.strips (pos l.first) (pos z) h.0 row e)

rows-keep : (w h m top commit : ℕ) (message : Option (List ℕ)) (fs : List ShownFile) → LayersKeep w (document_layers w h m top (record { commit = commit; message = message; files = fs }))
rows-keep w h m top commit message fs = go (length fs == 0) message
  where
    words : Keeps w (no_files_strip w)
    words row e = say-keeps w row _ (no_files_text ∷ []) 0 w (omega arith) e

    go : (b : Bool) (message : Option (List ℕ)) → LayersKeep w (cond b (no_files_layers w h top commit message) (files_layer w m top (record { commit = commit; message = message; files = fs }) ∷ []))
    go true None = ((words, tt), tt)
    go true (Some message) = (all-message w commit (Some message), ((words, tt), tt))
    go false message = (all-append w (message_strips w commit message) _ (all-message w commit message) (all-files w m _ fs), tt)

pub document-keeps : (w h m top z : ℕ) (d : Document) (row : Row) → length row ≡ w → length (shown_by (document_layers w h m top d) z row) ≡ w
document-keeps w h m top z d row e = layers-keep w (document_layers w h m top d) z row (rows-keep w h m top d.commit d.message d.files) e
