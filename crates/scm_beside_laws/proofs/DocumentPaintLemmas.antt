-- The picture of a document makes of each row that the mask lets through what the document's row shows in its area.
use Rattle.std.proofs.Common.{◌≡◌, ℕ, zero, suc, ◌+◌, ◌-◌, ◌≤◌, ◌==◌, Bool, true, false, cond, List, [], ◌∷◌, ◌++◌, length, map, min, append-nil, get_or, refl, sym, ap, subst, ◌∙◌, arith, Option, Some, None}
use Rattle.std.specs.Prelude.{ℤ, pos, ◌+ℤ◌, if◌then◌else◌, option_map, slice_get}
use Rattle.std.specs.Ordering.{int_eq}
use Rattle.std.proofs.lemmas.Bool.Decides.{Decides-int_eq, nat_tests}
use Rattle.std.proofs.lemmas.Int.{ints}
use Rattle.std.proofs.lemmas.List.{length-map, map-append}
use Rattle.scm_render.specs.Canvas.{Row, Sight, paint}
use Rattle.scm_render.specs.Centring.{centred_rect, centred_gap}
use Rattle.scm_render.specs.Drawing.{reach, has_row, span_picture, text_picture}
use Rattle.scm_render.specs.Lines.{line}
use Rattle.scm_render.specs.Picture.{nothing, followed_by, part}
use Rattle.scm_render.proofs.LineLemmas.{line-below, line-get}
use Rattle.scm_render.proofs.PaintLemmas.{paint-append}
use Rattle.scm_render.proofs.RowLemmas.{PutsRows, one_more, one_row_paints, paints_more, paints_none}
use Rattle.scm_rows.specs.Heights.{message_height}
use Rattle.scm_types.specs.declared.keys.FileKey.{FileKey}
use Rattle.scm_widgets.specs.declared.ids.ComponentId.{ComponentId}
use Rattle.scm_widgets.specs.Pictures.{button_picture, blank_rest}
use Rattle.scm_widgets.specs.Texts.{button_text}
use Rattle.scm_document.specs.FilesRows.{files_rows}
use Rattle.scm_document.specs.Owners.{AreSectionsOf}
use Rattle.scm_document.specs.Pictures.{beside_button, button_row_picture, document_picture, edit_button, files_picture, message_picture, no_files_picture}
use Rattle.scm_document.specs.Rows.{DocRow, ShownSection, ShownFile, Document}
use Rattle.scm_document.specs.Strips.{no_files_gap}
use Rattle.scm_document.specs.Texts.{divider_text, message_text, no_files_text}
use Rattle.scm_document.proofs.DocumentLemmas.{AreInnerFiles}
use Rattle.scm_document.proofs.FilesOf.{AreFilesOf, HasItsIds}
use Rattle.scm_document.proofs.OwnerLemmas.{rows-inner}
use Rattle.scm_document.proofs.StripLemmas.{AreInnerSections, box-paints, text-paints}
use Rattle.scm_screen.specs.DocumentRows.{file_over, header_of, message_rows, row_in, with_document, with_shown, words_row}
use Rattle.scm_strips.specs.declared.area.Area.{Area}
use Rattle.scm_strips.specs.Shows.{AreaRow, FileRow, MessageRow, MarginRow, WordsRow, blank_in, end_column, shows, shows_row}
use Rattle.scm_beside_laws.proofs.FilePaintLemmas.{files-paint, header_rows, made-both, made_by}
use Rattle.scm_beside_laws.proofs.RowPaintLemmas.{rest-paints}
use Rattle.scm_beside_laws.proofs.SeenLemmas.{IsSeen, ShowsArea, seen-between}

-- ---- messages

margin-paints : (s : Sight) (w : ℕ) (a : Area) (y : ℤ) → IsSeen s w a → PutsRows s.rect (reach s) y (blank_rest s (pos a.left) y).puts (shows a MarginRow ∷ [])
margin-paints s w a y o =
    let here : a.left + 0 ≡ a.left = omega arith in
    subst (λ c. PutsRows s.rect (reach s) y (blank_rest s (pos c) y).puts (blank_in a 0 ∷ [])) here
    (one_row_paints s.rect (reach s) y _ _ (rest-paints (reach s) s w a 0 y (omega arith) o (λ k. k)))

button_row-paints : (commit : ℕ) (message : List ℕ) (s : Sight) (w : ℕ) (a : Area) (y : ℤ) → IsSeen s w a
    → PutsRows s.rect (reach s) y (button_row_picture commit message s (pos a.left) y).puts (shows a (MessageRow commit message) ∷ [])
unfolding button_row_picture beside_button button_picture span_picture followed_by part
button_row-paints commit message s w a y o =
    let v = s.rect in
    let seen = reach s in
    let l = a.left in
    let i = seen-between s w a o in
    let button = box-paints v seen seen w l (end_column a) (pos l) y l (button_text (edit_button commit)) i refl (λ k. k) in
    let divider = box-paints v seen seen w l (end_column a) (pos l +ℤ pos 15) y (l + 15) divider_text i refl (λ k. k) in
    let text = text-paints seen s w l (end_column a) (pos l +ℤ pos 19) y (l + 19) (message_text message ∷ []) i refl (λ k. k) in
    one_row_paints v seen y _ _ (one_more v seen y _ _ _ _ button (one_more v seen y _ _ _ _ divider text))

message-paints : (commit : ℕ) (message : Option (List ℕ)) (s : Sight) (w : ℕ) (a : Area) (y : ℤ) → IsSeen s w a
    → PutsRows s.rect (reach s) y (message_picture commit message s (pos a.left) y).puts (map (shows a) (message_rows commit message))
unfolding message_picture followed_by nothing
message-paints commit None s w a y o = paints_none s.rect (reach s) y
message-paints commit (Some message) s w a y o =
    let v = s.rect in
    let seen = reach s in
    let next : y +ℤ pos 2 ≡ (y +ℤ pos 1) +ℤ pos 1 = omega (arith, ints) in
    let lower = subst (λ k. PutsRows v seen k (blank_rest s (pos a.left) (y +ℤ pos 2)).puts (shows a MarginRow ∷ [])) next (margin-paints s w a (y +ℤ pos 2) o) in
    paints_more v seen y _ _ (shows a MarginRow ∷ []) (shows a (MessageRow commit message) ∷ (shows a MarginRow ∷ [])) (margin-paints s w a y o)
    (paints_more v seen (y +ℤ pos 1) _ _ (shows a (MessageRow commit message) ∷ []) (shows a MarginRow ∷ []) (button_row-paints commit message s w a (y +ℤ pos 1) o) lower)

-- ---- the empty-state text

from-corner : (n g : ℕ) → pos n +ℤ (pos 0 +ℤ pos g) ≡ pos (n + g)
from-corner n g = omega (arith, ints)

-- in the middle of the columns and rows that the mask lets through
words-paint : (s : Sight) (w : ℕ) (a : Area) (h top : ℕ) → a.width ≤ 65535 → h ≤ 65535 → IsSeen s w a → (reach s).height ≡ h
    → PutsRows s.rect (reach s) (pos (top + no_files_gap h)) (no_files_picture s (pos a.left) (pos top)).puts (shows a WordsRow ∷ [])
unfolding no_files_picture centred_rect
words-paint s w a h top p q o high =
    let width : min (reach s).width 65535 ≡ a.width = omega (arith, o.columns, p) in
    let height : min (reach s).height 65535 ≡ h = omega (arith, high, q) in
    let x = pos a.left +ℤ (pos 0 +ℤ pos (centred_gap (min (reach s).width 65535) 29 50)) in
    let y = pos top +ℤ (pos 0 +ℤ pos (centred_gap (min (reach s).height 65535) 1 50)) in
    let column : x ≡ pos (a.left + centred_gap a.width 29 50) = ap (λ k. pos a.left +ℤ (pos 0 +ℤ pos (centred_gap k 29 50))) width ∙ from-corner a.left (centred_gap a.width 29 50) in
    let row : y ≡ pos (top + no_files_gap h) = ap (λ k. pos top +ℤ (pos 0 +ℤ pos (centred_gap k 1 50))) height ∙ from-corner top (no_files_gap h) in
    let said = text-paints (reach s) s w a.left (end_column a) x y (a.left + centred_gap a.width 29 50) (no_files_text ∷ []) (seen-between s w a o) column (λ k. k) in
    subst (λ k. PutsRows s.rect (reach s) k (text_picture {K = ComponentId} s x y (no_files_text ∷ [])).puts (shows a WordsRow ∷ [])) row (one_row_paints s.rect (reach s) y _ _ said)

-- ---- rows by their numbers

row-of-line : (a : Area) (ds : List AreaRow) (z : ℕ) (row : Row) → get_or (map (shows a) ds) z (λ (r : Row). r) row ≡ with_shown a (slice_get ds z) row
row-of-line a [] z row = refl
row-of-line a (d ∷ ds) zero row = refl
row-of-line a (d ∷ ds) (suc z) row = row-of-line a ds z row

rows-line : (a : Area) (ds : List AreaRow) (z : ℕ) (row : Row) → made_by (map (shows a) ds) (pos 1) (pos z) row ≡ with_shown a (row_in ds z) row
rows-line a ds zero row = ap (λ (f : Row → Row). f row) (line-below (λ (r : Row). r) (map (shows a) ds) (pos 1) (pos 0) (omega (arith, ints)))
rows-line a ds (suc z) row =
    let next : suc z ≡ 1 + z = omega arith in
    ap (λ (f : Row → Row). f row) (ap (λ k. line (λ (r : Row). r) (map (shows a) ds) (pos 1) (pos k)) next ∙ line-get (λ (r : Row). r) (map (shows a) ds) 1 z)
    ∙ row-of-line a ds z row

one-row : (a : Area) (d : AreaRow) (y z : ℕ) (row : Row) → made_by (shows a d ∷ []) (pos y) (pos z) row ≡ with_shown a (if z == y then Some d else None) row
unfolding line
one-row a d y z row = go (z == y) refl
  where
    go : (b : Bool) → (z == y) ≡ b → (cond (int_eq (pos z) (pos y)) (shows a d) (λ r. r)) row ≡ with_shown a (if b then Some d else None) row
    go true e = let same : int_eq (pos z) (pos y) ≡ true = grind (arith, ints, nat_tests, e, Decides-int_eq (pos z) (pos y)) in rw same refl
    go false e = let other : int_eq (pos z) (pos y) ≡ false = grind (arith, ints, nat_tests, e, Decides-int_eq (pos z) (pos y)) in rw other refl

header-row : (a : Area) (o : Option ShownFile) (m z : ℕ) (row : Row) → made_by (header_rows a o) (pos m) (pos z) row ≡ with_shown a (if z == m then option_map header_of o else None) row
unfolding line
header-row a None m z row = go (z == m)
  where
    go : (b : Bool) → row ≡ with_shown a (if b then None else None) row
    go true = refl
    go false = refl
header-row a (Some f) m z row = one-row a (header_of f) m z row

map-file : (a : Area) (ds : List DocRow) → map (shows a) (map FileRow ds) ≡ map (shows_row a) ds
map-file a [] = refl
map-file a (d ∷ ds) = ap (λ (fs : List (Row → Row)). shows_row a d ∷ fs) (map-file a ds)

message-long : (commit : ℕ) (message : Option (List ℕ)) → length (message_rows commit message) ≡ message_height message
message-long commit None = refl
message-long commit (Some message) = refl

-- ---- documents

-- a document by its parts
abbrev pub made : ℕ → Option (List ℕ) → List ShownFile → Document
made commit message files = record { commit = commit; message = message; files = files }

-- a message alone makes its rows
said : (commit : ℕ) (message : Option (List ℕ)) (t : Sight) (w : ℕ) (a : Area) (z : ℕ) (row : Row) → IsSeen t w a → has_row (reach t) (pos z) ≡ true
    → paint t.rect (message_picture commit message t (pos a.left) (pos 1)).puts (pos z) row ≡ made_by (map (shows a) (message_rows commit message)) (pos 1) (pos z) row
said commit message t w a z row o seen = message-paints commit message t w a (pos 1) o (pos z) row seen

bare-paints : (commit : ℕ) (message : Option (List ℕ)) (t : Sight) (w h s : ℕ) (a : Area) → ShowsArea t w h s a → (z : ℕ) (row : Row) → has_row (reach t) (pos z) ≡ true
    → paint t.rect (document_picture (made commit message []) t (pos a.left) (pos 1)).puts (pos z) row ≡ with_document a h s (made commit message []) z row
unfolding document_picture followed_by part files_rows
bare-paints commit message t w h s a o z row seen =
    let words = words-paint t w a (h - 1) 1 (omega (arith, o.seen.last, o.width)) (omega (arith, o.height)) o.seen o.rows in
    let ds = message_rows commit message in
    let under_it = made_by (map (shows a) ds) (pos 1) (pos z) row in
    let none : ds ++ [] ≡ ds = append-nil ds in
    paint-append t.rect (message_picture commit message t (pos a.left) (pos 1)).puts (no_files_picture t (pos a.left) (pos 1)).puts (pos z) row
    ∙ ap (λ r. paint t.rect (no_files_picture t (pos a.left) (pos 1)).puts (pos z) r) (said commit message t w a z row o.seen seen)
    ∙ words (pos z) under_it seen
    ∙ one-row a WordsRow (words_row h) z under_it
    ∙ ap (with_shown a (if z == words_row h then Some WordsRow else None)) (rows-line a ds z row ∙ ap (λ es. with_shown a (row_in es z) row) (sym none))

filled-paints : (commit : ℕ) (message : Option (List ℕ)) (f : ShownFile) (fs : List ShownFile) (t : Sight) (w h s : ℕ) (a : Area) → ShowsArea t w h s a → AreInnerFiles (f ∷ fs)
    → (z : ℕ) (row : Row) → has_row (reach t) (pos z) ≡ true
    → paint t.rect (document_picture (made commit message (f ∷ fs)) t (pos a.left) (pos 1)).puts (pos z) row ≡ with_document a h s (made commit message (f ∷ fs)) z row
unfolding document_picture followed_by part
filled-paints commit message f fs t w h s a o inner z row seen =
    let some : (length (f ∷ fs) == 0) ≡ false = grind arith in
    let k = 1 + message_height message in
    let l = pos a.left in
    let ds = message_rows commit message in
    let es = map FileRow (files_rows (f ∷ fs)) in
    let m = s + 1 in
    let over = header_rows a (file_over m k (f ∷ fs)) in
    let above = made_by (map (shows a) ds) (pos 1) (pos z) row in
    let below : pos 1 +ℤ pos (length (map (shows a) ds)) ≡ pos k = ap (λ n. pos 1 +ℤ pos n) (length-map ds (shows a) ∙ message-long commit message) in
    let all : made_by (map (shows_row a) (files_rows (f ∷ fs))) (pos k) (pos z) above ≡ made_by (map (shows a) (ds ++ es)) (pos 1) (pos z) row =
    ap (λ gs. made_by gs (pos k) (pos z) above) (sym (map-file a (files_rows (f ∷ fs))))
    ∙ ap (λ y. made_by (map (shows a) es) y (pos z) above) (sym below)
    ∙ made-both (map (shows a) ds) (map (shows a) es) (pos 1) (pos z) row
    ∙ ap (λ gs. made_by gs (pos 1) (pos z) row) (sym (map-append (shows a) ds es)) in
    rw some
    (paint-append t.rect (message_picture commit message t l (pos 1)).puts (files_picture (f ∷ fs) t l (pos k)).puts (pos z) row
    ∙ ap (λ r. paint t.rect (files_picture (f ∷ fs) t l (pos k)).puts (pos z) r) (said commit message t w a z row o.seen seen)
    ∙ files-paint (f ∷ fs) t w a m k o.wide o.seen o.first inner (pos z) above seen
    ∙ ap (λ r. made_by over (pos m) (pos z) r) (all ∙ rows-line a (ds ++ es) z row)
    ∙ header-row a (file_over m k (f ∷ fs)) m z (with_shown a (row_in (ds ++ es) z) row))

-- ---- documents of a session

pub sections-inner : (k : FileKey) (n : ℕ) (ps : List ShownSection) → AreSectionsOf k n ps → AreInnerSections ps
sections-inner k n [] h = tt
sections-inner k n (p ∷ ps) h = (rows-inner p.key 0 p.rows h.2, sections-inner k _ ps h.3)

files-inner : (commit n : ℕ) (fs : List ShownFile) → AreFilesOf commit n fs → AreInnerFiles fs
files-inner commit n [] h = tt
files-inner commit n (f ∷ fs) h = (sections-inner f.key 0 f.sections h.0.sections, files-inner commit _ fs h.1)

by-parts : (commit : ℕ) (message : Option (List ℕ)) (fs : List ShownFile) (t : Sight) (w h s : ℕ) (a : Area) → ShowsArea t w h s a → AreInnerFiles fs
    → (z : ℕ) (row : Row) → has_row (reach t) (pos z) ≡ true
    → paint t.rect (document_picture (made commit message fs) t (pos a.left) (pos 1)).puts (pos z) row ≡ with_document a h s (made commit message fs) z row
by-parts commit message [] t w h s a o inner z row seen = bare-paints commit message t w h s a o z row seen
by-parts commit message (f ∷ fs) t w h s a o inner z row seen = filled-paints commit message f fs t w h s a o inner z row seen

pub document-paints : (d : Document) (t : Sight) (w h s : ℕ) (a : Area) → ShowsArea t w h s a → HasItsIds d → (z : ℕ) (row : Row) → has_row (reach t) (pos z) ≡ true
    → paint t.rect (document_picture d t (pos a.left) (pos 1)).puts (pos z) row ≡ with_document a h s d z row
document-paints d t w h s a o own z row seen = by-parts d.commit d.message d.files t w h s a o (files-inner d.commit 0 d.files own) z row seen
