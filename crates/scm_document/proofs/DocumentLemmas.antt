-- The picture of a document makes of each row that the mask lets through what the document's strip says, and over it the pinned
-- header's.
use Rattle.std.proofs.Common.{◌≡◌, ℕ, ◌+◌, ◌<◌, ◌≤◌, Bool, true, false, cond, List, [], ◌∷◌, ◌++◌, length, map, take, drop, suc, refl, sym, ap, ◌∙◌, subst, arith, ◌==◌}
use Rattle.std.specs.Prelude.{ℤ, pos, ◌+ℤ◌, ◌<ℤ◌, nat_lt, ◌&&◌, min, if◌then◌else◌, Option, Some, None}
use Rattle.std.specs.Ordering.{int_eq}
use Rattle.std.proofs.lemmas.Int.{ints}
use Rattle.std.proofs.lemmas.Bool.Decides.{Decides-int_eq}
use Rattle.scm_render.specs.Picture.{nothing, followed_by, part}
use Rattle.scm_render.specs.Canvas.{Row, Sight, under, paint}
use Rattle.scm_render.specs.Drawing.{reach, has_row, span_picture, text_picture}
use Rattle.scm_render.specs.Centring.{centred_rect, centred_gap}
use Rattle.scm_render.specs.Lines.{line}
use Rattle.scm_render.proofs.LineLemmas.{line-append, line-below, line-map}
use Rattle.scm_render.proofs.PaintLemmas.{paint-none, paint-append}
use Rattle.scm_render.proofs.RowLemmas.{PutsRows, one_more, one_row_paints, paints_none, paints_more}
use Rattle.scm_types.specs.declared.line.SectionChangedLine.{SectionChangedLine}
use Rattle.scm_types.specs.declared.section.Section.{Section}
use Rattle.scm_types.specs.declared.section.Section.TheVariants.{Unchanged, Changed}
use Rattle.scm_widgets.specs.declared.ids.ComponentId.{ComponentId}
use Rattle.scm_document.specs.declared.section_view.SectionView.{SectionView}
use Rattle.scm_document.specs.declared.file_view.FileView.{FileView}
use Rattle.scm_document.specs.declared.commit_view.CommitView.{CommitView}
use Rattle.scm_document.specs.OpenSights.{IsOpen}
use Rattle.scm_widgets.specs.Layers.{Strip, clear, shown_by}
use Rattle.scm_widgets.specs.Texts.{button_text}
use Rattle.scm_document.specs.Texts.{divider_text, message_text, dots_text, no_files_text}
use Rattle.scm_rows.specs.Context.{first_below, has_dots, lines_above}
use Rattle.scm_rows.specs.Heights.{is_section_visible, message_height}
use Rattle.scm_document.specs.Rows.{DocRow, DotsRow, BlankRow, HeaderRow, ShownSection, ShownFile, is_open, is_first_open, shown_lines, rows_below, context_rows, rows_of_lines, changed_rows, numbered_rows, rows_of, section_rows, shown_section, shown_sections, shown_file, document_of, file_rows, place_of}
use Rattle.scm_widgets.specs.Boxes.{is_fold_open}
use Rattle.scm_document.specs.Pictures.{shown_file_picture, file_mask, mask_row, is_pinned, pinned_header, pinned_picture, one_file_picture, files_picture, edit_button, beside_button, message_picture, no_files_picture, document_picture, commit_picture, button_row_picture}
use Rattle.scm_widgets.specs.Pictures.{button_picture, blank_rest}
use Rattle.scm_document.specs.Strips.{row_strip, file_strips, is_over, files_strips, pinned_strips, message_strip, message_strips, no_files_gap, no_files_strip, document_layers, pinned_layer}
use Rattle.scm_document.proofs.StripLemmas.{AreInner, AreInnerSections, shows_of, map-append, open-between, box-paints, text-paints, whole_file-paints, pinned-paints, made_by, length-file_strips, rest-paints}
use Rattle.scm_widgets.specs.Blanks.{blanked}

abbrev pub AreInnerFiles : List ShownFile → Type 0
AreInnerFiles [] = Unit {0}
AreInnerFiles (f ∷ fs) = AreInnerSections f.sections × AreInnerFiles fs

-- ---- lists of what is made of a row

length-shows : (ss : List (Strip ComponentId)) → length (map shows_of ss) ≡ length ss
length-shows [] = refl
length-shows (s ∷ ss) = ap suc (length-shows ss)

-- two lists one below the other
made-both : (ss ts : List (Strip ComponentId)) (y z : ℤ) (row : Row) → made_by ts (y +ℤ pos (length ss)) z (made_by ss y z row) ≡ made_by (ss ++ ts) y z row
made-both ss ts y z row =
    let n = length-shows ss in
    rw (map-append shows_of ss ts, sym n) (ap (λ (f : Row → Row). f row) (line-append (λ r. r) (λ f g r. g (f r)) (λ m. refl) (λ m. refl) (map shows_of ss) (map shows_of ts) y z))

-- above a list nothing is made
made-above : (ss : List (Strip ComponentId)) (y z : ℤ) (row : Row) → z <ℤ y → made_by ss y z row ≡ row
made-above ss y z row h = ap (λ (f : Row → Row). f row) (line-below (λ r. r) (map shows_of ss) y z h)

made-none : (y z : ℤ) (row : Row) → made_by [] y z row ≡ row
unfolding line
made-none y z row = refl

-- one strip on row m, and strips below that row, one after the other
made-apart : (p : Strip ComponentId) (ss : List (Strip ComponentId)) (m y z : ℤ) (row : Row) → m <ℤ y → made_by ss y z (made_by (p ∷ []) m z row) ≡ made_by (p ∷ []) m z (made_by ss y z row)
unfolding line
made-apart p ss m y z row h = go (int_eq z m) refl
  where
    go : (b : Bool) → int_eq z m ≡ b → line (λ r. r) (map shows_of ss) y z ((cond b p.shows (λ r. r)) row) ≡ (cond b p.shows (λ r. r)) (line (λ r. r) (map shows_of ss) y z row)
    go true e =
        let same : z ≡ m = (Decides-int_eq z m).0 e in
        let above : z <ℤ y = omega (arith, ints, same, h) in
        made-above ss y z (p.shows row) above ∙ ap p.shows (sym (made-above ss y z row above))
    go false e = refl

-- ---- files

-- below row m no header is pinned on it
pub none-pinned : (w m top : ℕ) (fs : List ShownFile) → m ≤ top → pinned_strips w m top fs ≡ []
unfolding pinned_strips
none-pinned w m top [] h = refl
none-pinned w m top (f ∷ fs) h =
    let no : nat_lt top m ≡ false = grind (arith, h) in
    rw no (none-pinned w m (top + length (file_rows f)) fs (omega (arith, h)))

pub over-below : (m top : ℕ) (f : ShownFile) → is_over m top f ≡ true → m < top + length (file_rows f)
over-below m top f h = grind (arith, h)

pub same-test : (m top n : ℕ) → is_pinned (pos m) (pos top) n ≡ (nat_lt top m && nat_lt m (top + n))
same-test m top n = refl

one_file-paints : (f : ShownFile) (s : Sight) (w m top : ℕ) (b : Bool) → is_over m top f ≡ b → 10 ≤ w → IsOpen s w → mask_row s ≡ pos m → AreInnerSections f.sections → (z : ℤ) (row : Row) → has_row (reach s) z ≡ true
    → paint s.rect (one_file_picture f s (pos 0) (pos top)).puts z row ≡ made_by (cond b (row_strip w (HeaderRow f.key f.heading) ∷ []) []) (pos m) z (made_by (file_strips w b f) (pos top) z row)
unfolding one_file_picture pinned_picture followed_by part
one_file-paints f s w m top b q fits o e inner z row h =
    let test : is_pinned (mask_row s) (pos top) (length (file_rows f)) ≡ b = ap (λ k. is_pinned k (pos top) (length (file_rows f))) e ∙ same-test m top (length (file_rows f)) ∙ q in
    let whole = whole_file-paints f b s w (pos top) fits o inner z row h in
    rw test
    (paint-append s.rect (shown_file_picture f (under (file_mask s (pos 0) (pos top)) s) (pos 0) (pos top)).puts (if b then pinned_header f s (pos 0) (mask_row s) else nothing).puts z row
    ∙ ap (λ r. paint s.rect (if b then pinned_header f s (pos 0) (mask_row s) else nothing).puts z r) whole
    ∙ pinned-paints f s w m b fits o e z (made_by (file_strips w b f) (pos top) z row) h)

-- a file's strips, its pinned header's and those of the files below, in the order in which they are drawn, and as layers
in-layers : (b : Bool) (hs own rest : List (Strip ComponentId)) (p : Strip ComponentId) (m y k z : ℤ) (row : Row) → (b ≡ true → hs ≡ []) → (b ≡ true → m <ℤ k) → y +ℤ pos (length own) ≡ k
    → made_by hs m z (made_by rest k z (made_by (cond b (p ∷ []) []) m z (made_by own y z row))) ≡ made_by (cond b (p ∷ []) hs) m z (made_by (own ++ rest) y z row)
in-layers true hs own rest p m y k z row none below e =
    let joined : made_by rest k z (made_by own y z row) ≡ made_by (own ++ rest) y z row = rw (sym e) (made-both own rest y z row) in
    rw (none refl) (made-none m z _ ∙ made-apart p rest m k z (made_by own y z row) (below refl) ∙ ap (λ r. made_by (p ∷ []) m z r) joined)
in-layers false hs own rest p m y k z row none below e =
    let joined : made_by rest k z (made_by own y z row) ≡ made_by (own ++ rest) y z row = rw (sym e) (made-both own rest y z row) in
    ap (λ r. made_by hs m z (made_by rest k z r)) (made-none m z (made_by own y z row)) ∙ ap (λ r. made_by hs m z r) joined

pub files-paint : (fs : List ShownFile) (s : Sight) (w m top : ℕ) → 10 ≤ w → IsOpen s w → mask_row s ≡ pos m → AreInnerFiles fs → (z : ℤ) (row : Row) → has_row (reach s) z ≡ true
    → paint s.rect (files_picture fs s (pos 0) (pos top)).puts z row ≡ made_by (pinned_strips w m top fs) (pos m) z (made_by (files_strips w m top fs) (pos top) z row)
unfolding files_picture files_strips pinned_strips followed_by nothing
files-paint [] s w m top fits o e inner z row h = paint-none s.rect z row ∙ sym (made-none (pos m) z (made_by [] (pos top) z row) ∙ made-none (pos top) z row)
files-paint (f ∷ fs) s w m top fits o e inner z row h =
    let b = is_over m top f in
    let n = length (file_rows f) in
    let hs = pinned_strips w m (top + n) fs in
    let rest = files_strips w m (top + n) fs in
    paint-append s.rect (one_file_picture f s (pos 0) (pos top)).puts (files_picture fs s (pos 0) (pos top +ℤ pos n)).puts z row
    ∙ ap (λ r. paint s.rect (files_picture fs s (pos 0) (pos top +ℤ pos n)).puts z r) (one_file-paints f s w m top b refl fits o e inner.0 z row h)
    ∙ files-paint fs s w m (top + n) fits o e inner.1 z (made_by (cond b (row_strip w (HeaderRow f.key f.heading) ∷ []) []) (pos m) z (made_by (file_strips w b f) (pos top) z row)) h
    ∙ in-layers b hs (file_strips w b f) rest (row_strip w (HeaderRow f.key f.heading)) (pos m) (pos top) (pos (top + n)) z row
    (λ q. none-pinned w m (top + n) fs (omega (arith, over-below m top f q))) (λ q. let past = over-below m top f q in omega (arith, ints, past))
    (ap (λ k. pos top +ℤ pos k) (length-file_strips w b f))

-- ---- messages

pub message-paints : (commit : ℕ) (message : Option (List ℕ)) (s : Sight) (w : ℕ) (y : ℤ) → 10 ≤ w → IsOpen s w
    → PutsRows s.rect (reach s) y (message_picture commit message s (pos 0) y).puts (map shows_of (message_strips w commit message))
unfolding message_picture button_row_picture message_strips beside_button button_picture span_picture followed_by part nothing
message-paints commit None s w y fits o = paints_none s.rect (reach s) y
message-paints commit (Some message) s w y fits o =
    let v = s.rect in
    let seen = reach s in
    let i = open-between s w o in
    let row = y +ℤ pos 1 in
    let button = box-paints v seen seen w 0 w (pos 0) row 0 (button_text (edit_button commit)) i refl (λ k. k) in
    let divider = box-paints v seen seen w 0 w (pos 0 +ℤ pos 15) row 15 divider_text i refl (λ k. k) in
    let text = text-paints seen s w 0 w (pos 0 +ℤ pos 19) row 19 (message_text message ∷ []) i refl (λ k. k) in
    let said = one_more v seen row _ _ _ _ button (one_more v seen row _ _ _ _ divider text) in
    let upper = one_row_paints v seen y _ _ (rest-paints seen s w 0 y (omega arith) o (λ k. k)) in
    let next : y +ℤ pos 2 ≡ row +ℤ pos 1 = omega (arith, ints) in
    let lower = subst (λ k. PutsRows v seen k (blank_rest s (pos 0) (y +ℤ pos 2)).puts (blanked 0 w ∷ [])) next (one_row_paints v seen (y +ℤ pos 2) _ _ (rest-paints seen s w 0 (y +ℤ pos 2) (omega arith) o (λ k. k))) in
    paints_more v seen y _ _ (blanked 0 w ∷ []) _ upper (paints_more v seen row _ _ ((message_strip w commit message).shows ∷ []) (blanked 0 w ∷ []) (one_row_paints v seen row _ _ said) lower)

pub length-message : (w commit : ℕ) (message : Option (List ℕ)) → length (message_strips w commit message) ≡ message_height message
unfolding message_strips
length-message w commit None = refl
length-message w commit (Some message) = refl

no-message : (w commit : ℕ) (y z : ℤ) (row : Row) → made_by (message_strips w commit None) y z row ≡ row
unfolding message_strips line
no-message w commit y z row = refl

-- ---- documents

shows-line : (ss : List (Strip ComponentId)) (y z : ℤ) (row : Row) → made_by ss y z row ≡ (line clear ss y z).shows row
shows-line ss y z row = ap (λ (f : Row → Row). f row) (line-map shows_of clear ss y z)

from-corner : (n g : ℕ) → pos n +ℤ (pos 0 +ℤ pos g) ≡ pos (n + g)
from-corner n g = omega (arith, ints)

zero-more : (g : ℕ) → pos (0 + g) ≡ pos g
zero-more g = omega (arith, ints)

-- the words for no files, in the middle of the columns and rows that the mask lets through
words-paint : (s : Sight) (w h top : ℕ) → 10 ≤ w → w ≤ 65535 → h ≤ 65535 → IsOpen s w → (reach s).height ≡ h
    → PutsRows s.rect (reach s) (pos (top + no_files_gap h)) (no_files_picture s (pos 0) (pos top)).puts (map shows_of (no_files_strip w ∷ []))
unfolding no_files_picture centred_rect
words-paint s w h top fits p q o high =
    let width : min (reach s).width 65535 ≡ w = omega (arith, o.columns, p) in
    let height : min (reach s).height 65535 ≡ h = omega (arith, high, q) in
    let x = pos 0 +ℤ (pos 0 +ℤ pos (centred_gap (min (reach s).width 65535) 29 50)) in
    let y = pos top +ℤ (pos 0 +ℤ pos (centred_gap (min (reach s).height 65535) 1 50)) in
    let column : x ≡ pos (0 + centred_gap w 29 50) = ap (λ k. pos 0 +ℤ (pos 0 +ℤ pos (centred_gap k 29 50))) width ∙ from-corner 0 (centred_gap w 29 50) in
    let row : y ≡ pos (top + no_files_gap h) = ap (λ k. pos top +ℤ (pos 0 +ℤ pos (centred_gap k 1 50))) height ∙ from-corner top (no_files_gap h) in
    let said = text-paints (reach s) s w 0 w x y (centred_gap w 29 50) (no_files_text ∷ []) (open-between s w o) (column ∙ zero-more (centred_gap w 29 50)) (λ k. k) in
    subst (λ k. PutsRows s.rect (reach s) k (text_picture {K = ComponentId} s x y (no_files_text ∷ [])).puts ((no_files_strip w).shows ∷ [])) row (one_row_paints s.rect (reach s) y _ _ said)

-- on each row that the mask lets through
body-paints : (commit : ℕ) (message : Option (List ℕ)) (fs : List ShownFile) (s : Sight) (w h m top : ℕ) → 10 ≤ w → w ≤ 65535 → h ≤ 65535 → IsOpen s w → (reach s).height ≡ h → mask_row s ≡ pos m → AreInnerFiles fs
    → (z : ℕ) (row : Row) → has_row (reach s) (pos z) ≡ true
    → paint s.rect (document_picture (record { commit = commit; message = message; files = fs }) s (pos 0) (pos top)).puts (pos z) row
    ≡ shown_by (document_layers w h m top (record { commit = commit; message = message; files = fs }) ++ pinned_layer w m top (record { commit = commit; message = message; files = fs }) ∷ []) z row
unfolding document_picture followed_by part shown_by pinned_strips line
body-paints commit None [] s w h m top fits p q o high e inner z row seen =
    let words = words-paint s w h top fits p q o high in
    paint-append s.rect (message_picture commit None s (pos 0) (pos top)).puts (no_files_picture s (pos 0) (pos top)).puts (pos z) row
    ∙ ap (λ r. paint s.rect (no_files_picture s (pos 0) (pos top)).puts (pos z) r) (message-paints commit None s w (pos top) fits o (pos z) row seen ∙ no-message w commit (pos top) (pos z) row)
    ∙ words (pos z) row seen ∙ shows-line (no_files_strip w ∷ []) (pos (top + no_files_gap h)) (pos z) row
body-paints commit (Some message) [] s w h m top fits p q o high e inner z row seen =
    let words = words-paint s w h top fits p q o high in
    let above = message_strips w commit (Some message) in
    paint-append s.rect (message_picture commit (Some message) s (pos 0) (pos top)).puts (no_files_picture s (pos 0) (pos top)).puts (pos z) row
    ∙ ap (λ r. paint s.rect (no_files_picture s (pos 0) (pos top)).puts (pos z) r) (message-paints commit (Some message) s w (pos top) fits o (pos z) row seen ∙ shows-line above (pos top) (pos z) row)
    ∙ words (pos z) ((line clear above (pos top) (pos z)).shows row) seen ∙ shows-line (no_files_strip w ∷ []) (pos (top + no_files_gap h)) (pos z) ((line clear above (pos top) (pos z)).shows row)
body-paints commit message (f ∷ fs) s w h m top fits p q o high e inner z row seen =
    let above = message_strips w commit message in
    let n = length-message w commit message in
    let k = top + message_height message in
    let height : top + length above ≡ k = ap (λ j. top + j) n in
    let rest = files_strips w m k (f ∷ fs) in
    let pinned = pinned_strips w m k (f ∷ fs) in
    let some : (length (f ∷ fs) == 0) ≡ false = grind arith in
    rw some (subst (λ j. paint s.rect ((message_picture commit message s (pos 0) (pos top)).puts ++ (files_picture (f ∷ fs) s (pos 0) (pos k)).puts) (pos z) row
    ≡ (line clear (pinned_strips w m j (f ∷ fs)) (pos m) (pos z)).shows ((line clear (above ++ files_strips w m j (f ∷ fs)) (pos top) (pos z)).shows row)) (sym height)
    (paint-append s.rect (message_picture commit message s (pos 0) (pos top)).puts (files_picture (f ∷ fs) s (pos 0) (pos k)).puts (pos z) row
    ∙ ap (λ r. paint s.rect (files_picture (f ∷ fs) s (pos 0) (pos k)).puts (pos z) r) (message-paints commit message s w (pos top) fits o (pos z) row seen)
    ∙ files-paint (f ∷ fs) s w m k fits o e inner (pos z) (made_by above (pos top) (pos z) row) seen
    ∙ ap (λ r. made_by pinned (pos m) (pos z) r) (subst (λ j. made_by rest j (pos z) (made_by above (pos top) (pos z) row) ≡ made_by (above ++ rest) (pos top) (pos z) row) (ap (λ j. pos top +ℤ pos j) n) (made-both above rest (pos top) (pos z) row))
    ∙ shows-line pinned (pos m) (pos z) _
    ∙ ap (line clear pinned (pos m) (pos z)).shows (shows-line (above ++ rest) (pos top) (pos z) row)))

-- ---- a view's rows: only the first of a file is a header

inner-append : (rs qs : List DocRow) → AreInner rs → AreInner qs → AreInner (rs ++ qs)
inner-append [] qs p q = q
inner-append (r ∷ rs) qs p q = (p.0, inner-append rs qs p.1 q)

numbered-inner : (v : SectionView) (i : ℕ) (ls : List (List ℕ)) → AreInner (numbered_rows v i ls)
unfolding rows_of_lines
numbered-inner v i [] = tt
numbered-inner v i (l ∷ ls) = (refl, numbered-inner v (suc i) ls)

changed-inner : (v : SectionView) (i : ℕ) (ls : List SectionChangedLine) → AreInner (changed_rows v i ls)
unfolding rows_of_lines
changed-inner v i [] = tt
changed-inner v i (l ∷ ls) = (refl, changed-inner v (suc i) ls)

some-inner : (b : Bool) (rs : List DocRow) → AreInner rs → AreInner (if b then rs else [])
some-inner true rs h = h
some-inner false rs h = tt

context-inner : (v : SectionView) (ls : List (List ℕ)) → AreInner (context_rows v ls)
unfolding context_rows
context-inner v ls = go (length ls == 0)
  where
    n : ℕ
    n = first_below (place_of v) (length ls)

    go : (b : Bool) → AreInner (if b then BlankRow ∷ [] else shown_lines v ls)
    go true = (refl, tt)
    go false =
        inner-append (numbered_rows v 0 (take (lines_above (place_of v) (length ls)) ls)) (rows_below v ls) (numbered-inner v 0 (take (lines_above (place_of v) (length ls)) ls))
        (inner-append (if has_dots (place_of v) (length ls) then DotsRow (dots_text v.use_unicode) ∷ [] else []) (numbered_rows v n (drop n ls)) (some-inner (has_dots (place_of v) (length ls)) (DotsRow (dots_text v.use_unicode) ∷ []) (refl, tt)) (numbered-inner v n (drop n ls)))

rows-inner : (v : SectionView) (section : Section) → AreInner (rows_of v section)
rows-inner v (Unchanged ls) = context-inner v ls
rows-inner v (Changed ls) = (refl, some-inner (is_fold_open v.expand_box) (changed_rows v 0 ls) (changed-inner v 0 ls))
rows-inner v _ = (refl, tt)

sections-inner : (before : Bool) (vs : List SectionView) → AreInnerSections (shown_sections before vs)
unfolding shown_sections section_rows
sections-inner before [] = tt
sections-inner before (v ∷ vs) = go (is_section_visible before v.section.now (is_first_open vs)) (sections-inner (is_open v) vs)
  where
    go : (b : Bool) → AreInnerSections (shown_sections (is_open v) vs) → AreInnerSections (shown_section b v ++ shown_sections (is_open v) vs)
    go true h = (rows-inner v v.section.now, h)
    go false h = h

some_sections-inner : (b : Bool) (ps : List ShownSection) → AreInnerSections ps → AreInnerSections (if b then ps else [])
some_sections-inner true ps h = h
some_sections-inner false ps h = tt

files-inner : (vs : List FileView) → AreInnerFiles (map shown_file vs)
unfolding shown_file
files-inner [] = tt
files-inner (v ∷ vs) = (some_sections-inner (is_fold_open v.expand_box) (shown_sections false v.section_views) (sections-inner false v.section_views), files-inner vs)

pub commits-painted : (v : CommitView) (s : Sight) (w h m top : ℕ) → 10 ≤ w → w ≤ 65535 → h ≤ 65535 → IsOpen s w → (reach s).height ≡ h → mask_row s ≡ pos m
    → (z : ℕ) (row : Row) → has_row (reach s) (pos z) ≡ true
    → paint s.rect (commit_picture v s (pos 0) (pos top)).puts (pos z) row ≡ shown_by (document_layers w h m top (document_of v) ++ pinned_layer w m top (document_of v) ∷ []) z row
unfolding commit_picture
commits-painted v s w h m top fits p q o high e z row seen = let d = document_of v in body-paints d.commit d.message d.files s w h m top fits p q o high e (files-inner v.file_views) z row seen
