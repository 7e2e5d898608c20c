-- Each row of a document leaves a row of the screen as long as it was.
use Rattle.std.proofs.Common.{◌≡◌, ℕ, ◌+◌, ◌≤◌, Bool, true, false, List, [], ◌∷◌, length, ◌∙◌, arith, Option, Some, None}
use Rattle.std.specs.Prelude.{ℤ, pos, ◌+ℤ◌, ◌-ℤ◌, int_lt, if◌then◌else◌}
use Rattle.scm_cells.specs.Clusters.{text_width}
use Rattle.scm_cells.specs.Row.{put, ellipsis}
use Rattle.scm_cells.proofs.PutLemmas.{length-put}
use Rattle.scm_render.specs.Canvas.{Row}
use Rattle.scm_render.specs.Centring.{centred_gap}
use Rattle.scm_render.specs.Drawing.{texts_width}
use Rattle.scm_render.specs.Rows.{put_texts, say_texts}
use Rattle.scm_widgets.specs.Texts.{box_text}
use Rattle.scm_document.specs.Rows.{Heading, HeaderRow, SectionRow, LineRow, MarkRow, ContextRow, DotsRow, BlankRow, Document}
use Rattle.scm_document.specs.Texts.{divider_text, message_text, no_files_text}
use Rattle.scm_screen.specs.DocumentRows.{row_over, row_shown, with_document, with_shown}
use Rattle.scm_strips.specs.declared.area.Area.{Area}
use Rattle.scm_strips.specs.Shows.{AreaRow, FileRow, MessageRow, MarginRow, WordsRow, edit_text, end_column, fold_column, show_heading, shows, title_column}

put-keeps : (w : ℕ) (row : Row) (column : ℤ) (t : List ℕ) (low high : ℕ) → high ≤ w → length row ≡ w → length (put row column t low high) ≡ w
put-keeps w row column t low high p e = length-put row column t low high (omega (arith, p, e)) ∙ e

texts-keep : (w : ℕ) (row : Row) (column : ℤ) (ts : List (List ℕ)) (low high : ℕ) → high ≤ w → length row ≡ w → length (put_texts row column ts low high) ≡ w
unfolding put_texts
texts-keep w row column [] low high p e = e
texts-keep w row column (t ∷ ts) low high p e = texts-keep w (put row column t low high) (column +ℤ pos (text_width t)) ts low high p (put-keeps w row column t low high p e)

say-keeps : (w : ℕ) (row : Row) (column : ℤ) (ts : List (List ℕ)) (low high : ℕ) → high ≤ w → length row ≡ w → length (say_texts row column ts low high) ≡ w
unfolding say_texts
say-keeps w row column ts low high p e = go (int_lt (pos high) (column +ℤ pos (texts_width ts))) (texts-keep w row column ts low high p e)
  where
    go : (b : Bool) → length (put_texts row column ts low high) ≡ w
        → length (if b then put (put_texts row column ts low high) (pos high -ℤ pos 1) ellipsis low high else put_texts row column ts low high) ≡ w
    go true f = put-keeps w (put_texts row column ts low high) (pos high -ℤ pos 1) ellipsis low high p f
    go false f = f

heading-keeps : (w : ℕ) (a : Area) (c : ℕ) (h : Heading) (row : Row) → end_column a ≤ w → length row ≡ w → length (show_heading a c h row) ≡ w
heading-keeps w a c h row last e =
    let title : title_column a ≤ w = omega (arith, last) in
    say-keeps w _ (pos (a.left + (c + 4))) (h.title ∷ []) (a.left + c) (title_column a) title
    (put-keeps w _ (pos (a.left + c)) (box_text h.toggle) (a.left + c) (title_column a) title
    (put-keeps w _ (pos (a.left + c)) _ (a.left + c) (title_column a) title
    (put-keeps w row (fold_column a) (box_text h.fold) a.left (end_column a) last e)))

row-keeps : (w : ℕ) (a : Area) (d : AreaRow) (row : Row) → end_column a ≤ w → length row ≡ w → length (shows a d row) ≡ w
row-keeps w a (FileRow (HeaderRow key h)) row last e = heading-keeps w a 0 h row last e
row-keeps w a (FileRow (SectionRow selected h)) row last e = heading-keeps w a 2 h row last e
row-keeps w a (FileRow (LineRow key b ts)) row last e =
    say-keeps w _ (pos (a.left + 8)) ts a.left (end_column a) last (put-keeps w row (pos (a.left + 4)) (box_text b) a.left (end_column a) last e)
row-keeps w a (FileRow (MarkRow selected b t)) row last e =
    say-keeps w _ (pos (a.left + 6)) (t ∷ []) a.left (end_column a) last (put-keeps w row (pos (a.left + 2)) (box_text b) a.left (end_column a) last e)
row-keeps w a (FileRow (ContextRow key ts)) row last e = say-keeps w row (pos (a.left + 4)) ts a.left (end_column a) last e
row-keeps w a (FileRow (DotsRow t)) row last e = put-keeps w row (pos (a.left + 8)) t a.left (end_column a) last e
row-keeps w a (FileRow BlankRow) row last e = put-keeps w row (pos (a.left + 2)) _ (a.left + 2) (end_column a) last e
row-keeps w a (MessageRow commit message) row last e =
    say-keeps w _ (pos (a.left + 19)) (message_text message ∷ []) a.left (end_column a) last
    (put-keeps w _ (pos (a.left + 15)) divider_text a.left (end_column a) last (put-keeps w row (pos a.left) edit_text a.left (end_column a) last e))
row-keeps w a MarginRow row last e = put-keeps w row (pos (a.left + 0)) _ (a.left + 0) (end_column a) last e
row-keeps w a WordsRow row last e = say-keeps w row (pos (a.left + centred_gap a.width 29 50)) (no_files_text ∷ []) a.left (end_column a) last e

shown-keeps : (w : ℕ) (a : Area) (o : Option AreaRow) (row : Row) → end_column a ≤ w → length row ≡ w → length (with_shown a o row) ≡ w
shown-keeps w a None row last e = e
shown-keeps w a (Some d) row last e = row-keeps w a d row last e

pub document-keeps : (w h s z : ℕ) (a : Area) (d : Document) (row : Row) → end_column a ≤ w → length row ≡ w → length (with_document a h s d z row) ≡ w
document-keeps w h s z a d row last e =
    shown-keeps w a (row_over h s d z) (with_shown a (row_shown d z) row) last (shown-keeps w a (row_shown d z) row last e)
