-- The picture of each row makes of the rows of a screen what the row shows in its area, on its own row alone; and so for rows one below another.
use Rattle.std.proofs.Common.{◌≡◌, ℕ, ◌+◌, ◌-◌, ◌≤◌, Bool, true, false, List, [], ◌∷◌, length, map, replicate, refl, sym, ap, subst, ◌∙◌, arith}
use Rattle.std.specs.Prelude.{ℤ, pos, ◌+ℤ◌, ◌-ℤ◌}
use Rattle.std.specs.Int.{int_min, int_max}
use Rattle.std.proofs.lemmas.Int.{ints}
use Rattle.std.proofs.lemmas.List.{length-map, map-append}
use Rattle.scm_cells.specs.Rect.{end_x_of, or_zero, rect_between, intersect_of}
use Rattle.scm_cells.specs.declared.rect.Rect.{Rect}
use Rattle.scm_cells.specs.Row.{put}
use Rattle.scm_cells.proofs.RectLemmas.{places}
use Rattle.scm_render.specs.Canvas.{Row, Sight}
use Rattle.scm_render.specs.Picture.{nothing, followed_by, covering, part}
use Rattle.scm_render.specs.Drawing.{reach, row_rect, text_puts, span_picture, blank_picture}
use Rattle.scm_render.specs.Rows.{limit}
use Rattle.scm_render.proofs.RowsWithin.{put_within}
use Rattle.scm_render.proofs.RowLemmas.{OneRow, PutsRows, IsReached, one_none, one_more, one_same, one_row_paints, paints_none, paints_more}
use Rattle.scm_render.proofs.FillLemmas.{one_blank, blank_over}
use Rattle.scm_widgets.specs.declared.ids.ComponentId.{ComponentId}
use Rattle.scm_widgets.specs.Blanks.{blanked}
use Rattle.scm_widgets.specs.Texts.{box_text}
use Rattle.scm_widgets.specs.Pictures.{to_end, box_picture, fold_column, highlight, rest_of_row, blank_rest}
use Rattle.scm_document.specs.Pictures.{heading_width, title_picture, heading_picture, changed_picture, context_picture, row_picture, rows_picture, sections_picture, shown_file_picture}
use Rattle.scm_document.specs.Rows.{Heading, DocRow, HeaderRow, SectionRow, LineRow, MarkRow, ContextRow, DotsRow, BlankRow, ShownSection, ShownFile, sections_rows, file_rows}
use Rattle.scm_document.proofs.StripLemmas.{IsBetween, IsOnScreen, IsReachedFrom, AreInner, AreInnerSections, beside_fold, box-paints, column_of, text-paints}
use Rattle.scm_strips.specs.declared.area.Area.{Area}
use Rattle.scm_strips.specs.Shows as rows
use Rattle.scm_strips.specs.Shows.{end_column, show_heading, shows_row, title_column}
use Rattle.scm_beside_laws.proofs.SeenLemmas.{IsSeen, end-of, fold-at, fold-of, heading-between, heading-columns, heading-reached, seen-between}

-- ---- columns that are blanked

put-between : (v m : Rect) (w a b : ℕ) (x : ℤ) (c : ℕ) (t : List ℕ) (row : Row) → IsBetween v m w a b → x ≡ pos c → put_within v m x t row ≡ put row (pos c) t a b
put-between v m w a b x c t row i e =
    let column : x -ℤ v.x ≡ pos c = omega (arith, ints, i.left, e) in
    let low : limit v m.x ≡ a = omega (arith, places, i.left, i.width, i.low, i.first) in
    let high : limit v (end_x_of m) ≡ b = omega (arith, places, i.left, i.width, i.high, i.last) in
    rw (column, low, high) refl

blank-x : (x y : ℤ) (n : ℕ) (m : Rect) → (intersect_of (row_rect x y n) m).x ≡ int_max x m.x
unfolding rect_between
blank-x x y n m = refl

blank-width : (x y : ℤ) (n : ℕ) (m : Rect) → (intersect_of (row_rect x y n) m).width ≡ or_zero (int_min (x +ℤ pos n) (end_x_of m) -ℤ int_max x m.x)
unfolding rect_between
blank-width x y n m = refl

blank-between : (v m q : Rect) (w a b : ℕ) (row : Row) → IsBetween v m w a b → a ≤ b → q.x ≡ pos a → q.width ≡ b - a → blank_over v q row ≡ blanked a b row
blank-between v m q w a b row i h e n =
    let own : IsBetween v q w a b = record { left = i.left; width = i.width; low = e; high = omega (arith, ints, e, n); first = i.first; last = i.last } in
    put-between v q w a b q.x a (replicate q.width 32) row own e ∙ ap (λ k. put row (pos a) (replicate k 32) a b) n

-- the columns of a heading before its fold box
blank-paints : (seen : Rect) (s : Sight) (w : ℕ) (a : Area) (c : ℕ) (y : ℤ) → c + 8 ≤ a.width → IsSeen s w a → IsOnScreen seen s.rect
    → OneRow s.rect seen y (blank_picture {K = ComponentId} (beside_fold s (a.left + c) y) (row_rect (pos (a.left + c)) y (heading_width s (pos (a.left + c))))).puts
    (blanked (a.left + c) (title_column a))
blank-paints seen s w a c y h o on =
    let x = pos (a.left + c) in
    let m = reach (beside_fold s (a.left + c) y) in
    let n = heading-columns s w a c h o in
    let i = heading-between s w a c y h o in
    let q = intersect_of (row_rect x y (heading_width s x)) m in
    let from : q.x ≡ x = blank-x x y (heading_width s x) m ∙ omega (arith, places, i.low) in
    let columns : q.width ≡ title_column a - (a.left + c) = blank-width x y (heading_width s x) m ∙ omega (arith, places, i.low, i.high, n, h) in
    one_same s.rect seen y _ _ _ (λ row. blank-between s.rect m q w (a.left + c) (title_column a) row i (omega (arith, h)) from columns)
    (one_blank ComponentId s.rect seen (beside_fold s (a.left + c) y) x y (heading_width s x) (heading-reached s seen (a.left + c) y on))

-- a row of the area from a column on
pub rest-paints : (seen : Rect) (s : Sight) (w : ℕ) (a : Area) (c : ℕ) (y : ℤ) → c ≤ a.width → IsSeen s w a → IsReached seen (reach s) y
    → OneRow s.rect seen y (blank_rest s (pos (a.left + c)) y).puts (rows.blank_in a c)
rest-paints seen s w a c y h o r =
    let x = pos (a.left + c) in
    let m = reach s in
    let i = seen-between s w a o in
    let n = end-of s w a c h o in
    let q = intersect_of (rest_of_row s x y) m in
    let from : q.x ≡ x = blank-x x y (to_end s x) m ∙ omega (arith, places, i.low) in
    let columns : q.width ≡ end_column a - (a.left + c) = blank-width x y (to_end s x) m ∙ omega (arith, places, i.low, i.high, n, h) in
    let own : IsBetween s.rect q w (a.left + c) (end_column a) =
    record { left = o.left; width = o.width; low = from; high = omega (arith, ints, from, columns, h); first = omega (arith, o.last, h); last = o.last } in
    one_same s.rect seen y _ _ _ (λ row. blank-between s.rect q q w (a.left + c) (end_column a) row own (omega (arith, h)) from columns)
    (one_blank ComponentId s.rect seen s x y (to_end s x) r)

-- ---- headings

fold-paints : (seen : Rect) (s : Sight) (w : ℕ) (a : Area) (y : ℤ) (t : List ℕ) → 3 ≤ a.width → IsSeen s w a → IsReached seen (reach s) y
    → OneRow s.rect seen y (text_puts (reach s) (fold_column s) y t) (λ row. put row (rows.fold_column a) t a.left (end_column a))
fold-paints seen s w a y t fits o r =
    one_same s.rect seen y _ _ _ (λ row. ap (λ x. put row x t a.left (end_column a)) (fold-of a fits))
    (box-paints s.rect seen (reach s) w a.left (end_column a) (fold_column s) y (title_column a) t (seen-between s w a o) (fold-at s w a fits o) r)

pub heading-paints : (h : Heading) (seen : Rect) (s : Sight) (w : ℕ) (a : Area) (c : ℕ) (y : ℤ) → c + 8 ≤ a.width → IsSeen s w a → IsOnScreen seen s.rect → IsReached seen (reach s) y
    → OneRow s.rect seen y (heading_picture h s (pos (a.left + c)) y).puts (show_heading a c h)
unfolding heading_picture title_picture followed_by part box_picture span_picture
heading-paints h seen s w a c y fits o on r =
    let x = pos (a.left + c) in
    let i = heading-between s w a c y fits o in
    let m = reach (beside_fold s (a.left + c) y) in
    let inner = heading-reached s seen (a.left + c) y on in
    let title : x +ℤ pos 4 ≡ pos (a.left + (c + 4)) = omega (arith, ints) in
    one_more s.rect seen y _ _ _ _ (fold-paints seen s w a y (box_text h.fold) (omega (arith, fits)) o r)
    (one_more s.rect seen y _ _ _ _ (blank-paints seen s w a c y fits o on)
    (one_more s.rect seen y _ _ _ _ (box-paints s.rect seen m w (a.left + c) (title_column a) x y (a.left + c) (box_text h.toggle) i refl inner)
    (text-paints seen (beside_fold s (a.left + c) y) w (a.left + c) (title_column a) (x +ℤ pos 4) y (a.left + (c + 4)) (h.title ∷ []) i title inner)))

-- ---- rows

no-highlight : (b : Bool) (s : Sight) (y : ℤ) → (highlight b s y).puts ≡ []
unfolding covering nothing
no-highlight true s y = refl
no-highlight false s y = refl

pub row-paints : (d : DocRow) (seen : Rect) (s : Sight) (w : ℕ) (a : Area) (y : ℤ) → 10 ≤ a.width → IsSeen s w a → IsOnScreen seen s.rect → IsReached seen (reach s) y
    → OneRow s.rect seen y (row_picture d s (pos (a.left + column_of d)) y).puts (shows_row a d)
unfolding row_picture followed_by part covering changed_picture context_picture box_picture span_picture
row-paints (HeaderRow key h) seen s w a y fits o on r = heading-paints h seen s w a 0 y (omega (arith, fits)) o on r
row-paints (SectionRow selected h) seen s w a y fits o on r =
    rw (no-highlight selected s y)
    (one_more s.rect seen y _ [] _ (λ row. row) (heading-paints h seen s w a 2 y (omega (arith, fits)) o on r) (one_none s.rect seen y))
row-paints (LineRow key b ts) seen s w a y fits o on r =
    let i = seen-between s w a o in
    let x = pos (a.left + 2) +ℤ pos 2 in
    one_more s.rect seen y _ _ _ _
    (box-paints s.rect seen (reach s) w a.left (end_column a) x y (a.left + 4) (box_text b) i (omega (arith, ints)) r)
    (text-paints seen s w a.left (end_column a) (x +ℤ pos 4) y (a.left + 8) ts i (omega (arith, ints)) r)
row-paints (MarkRow selected b t) seen s w a y fits o on r =
    let i = seen-between s w a o in
    let x = pos (a.left + 2) in
    rw (no-highlight selected s y)
    (one_more s.rect seen y _ _ _ _
    (box-paints s.rect seen (reach s) w a.left (end_column a) x y (a.left + 2) (box_text b) i refl r)
    (one_more s.rect seen y _ [] _ (λ row. row)
    (text-paints seen s w a.left (end_column a) (x +ℤ pos 4) y (a.left + 6) (t ∷ []) i (omega (arith, ints)) r) (one_none s.rect seen y)))
row-paints (ContextRow key ts) seen s w a y fits o on r =
    text-paints seen s w a.left (end_column a) (pos (a.left + 2) +ℤ pos 2) y (a.left + 4) ts (seen-between s w a o) (omega (arith, ints)) r
row-paints (DotsRow t) seen s w a y fits o on r =
    box-paints s.rect seen (reach s) w a.left (end_column a) (pos (a.left + 2) +ℤ pos 6) y (a.left + 8) t (seen-between s w a o) (omega (arith, ints)) r
row-paints BlankRow seen s w a y fits o on r = rest-paints seen s w a 2 y (omega (arith, fits)) o r

-- a file's header, from the area's first column on
pub header-paints : (f : ShownFile) (seen : Rect) (s : Sight) (w : ℕ) (a : Area) (y : ℤ) → 10 ≤ a.width → IsSeen s w a → IsOnScreen seen s.rect → IsReached seen (reach s) y
    → OneRow s.rect seen y (row_picture (HeaderRow f.key f.heading) s (pos a.left) y).puts (shows_row a (HeaderRow f.key f.heading))
header-paints f seen s w a y fits o on r =
    let here : a.left + 0 ≡ a.left = omega arith in
    subst (λ c. OneRow s.rect seen y (row_picture (HeaderRow f.key f.heading) s (pos c) y).puts (shows_row a (HeaderRow f.key f.heading))) here
    (row-paints (HeaderRow f.key f.heading) seen s w a y fits o on r)

-- ---- rows one below another

later : (y : ℤ) (n : ℕ) (seen m : Rect) → IsReachedFrom y seen m → IsReachedFrom (y +ℤ pos n) seen m
later y n seen m r z h = r z (omega (arith, ints, h))

pub rows-paint : (ds : List DocRow) (seen : Rect) (s : Sight) (w : ℕ) (a : Area) (y : ℤ) → 10 ≤ a.width → IsSeen s w a → IsOnScreen seen s.rect → IsReachedFrom y seen (reach s) → AreInner ds
    → PutsRows s.rect seen y (rows_picture ds s (pos (a.left + 2)) y).puts (map (shows_row a) ds)
unfolding rows_picture followed_by nothing
rows-paint [] seen s w a y fits o on r inner = paints_none s.rect seen y
rows-paint (d ∷ ds) seen s w a y fits o on r inner =
    let x = pos (a.left + 2) in
    let first : OneRow s.rect seen y (row_picture d s x y).puts (shows_row a d) =
    subst (λ c. OneRow s.rect seen y (row_picture d s (pos (a.left + c)) y).puts (shows_row a d)) inner.0 (row-paints d seen s w a y fits o on (r y (omega (arith, ints)))) in
    paints_more s.rect seen y (row_picture d s x y).puts (rows_picture ds s x (y +ℤ pos 1)).puts (shows_row a d ∷ []) (map (shows_row a) ds)
    (one_row_paints s.rect seen y _ _ first)
    (rows-paint ds seen s w a (y +ℤ pos 1) fits o on (later y 1 seen (reach s) r) inner.1)

pub sections-paint : (ps : List ShownSection) (seen : Rect) (s : Sight) (w : ℕ) (a : Area) (y : ℤ) → 10 ≤ a.width → IsSeen s w a → IsOnScreen seen s.rect → IsReachedFrom y seen (reach s) → AreInnerSections ps
    → PutsRows s.rect seen y (sections_picture ps s (pos (a.left + 2)) y).puts (map (shows_row a) (sections_rows ps))
unfolding sections_picture sections_rows followed_by part nothing
sections-paint [] seen s w a y fits o on r inner = paints_none s.rect seen y
sections-paint (p ∷ ps) seen s w a y fits o on r inner =
    let x = pos (a.left + 2) in
    let n = length-map p.rows (shows_row a) in
    let next = y +ℤ pos (length p.rows) in
    let rest = sections-paint ps seen s w a next fits o on (later y (length p.rows) seen (reach s) r) inner.1 in
    rw (map-append (shows_row a) p.rows (sections_rows ps))
    (paints_more s.rect seen y (rows_picture p.rows s x y).puts (sections_picture ps s x next).puts (map (shows_row a) p.rows) (map (shows_row a) (sections_rows ps))
    (rows-paint p.rows seen s w a y fits o on r inner.0)
    (subst (λ k. PutsRows s.rect seen (y +ℤ pos k) (sections_picture ps s x next).puts (map (shows_row a) (sections_rows ps))) (sym n) rest))

pub file-paints : (f : ShownFile) (seen : Rect) (s : Sight) (w : ℕ) (a : Area) (y : ℤ) → 10 ≤ a.width → IsSeen s w a → IsOnScreen seen s.rect → IsReachedFrom y seen (reach s) → AreInnerSections f.sections
    → PutsRows s.rect seen y (shown_file_picture f s (pos a.left) y).puts (map (shows_row a) (file_rows f))
unfolding shown_file_picture followed_by file_rows
file-paints f seen s w a y fits o on r inner =
    paints_more s.rect seen y (row_picture (HeaderRow f.key f.heading) s (pos a.left) y).puts (sections_picture f.sections s (pos (a.left + 2)) (y +ℤ pos 1)).puts
    (shows_row a (HeaderRow f.key f.heading) ∷ []) (map (shows_row a) (sections_rows f.sections))
    (one_row_paints s.rect seen y _ _ (header-paints f seen s w a y fits o on (r y (omega (arith, ints)))))
    (sections-paint f.sections seen s w a (y +ℤ pos 1) fits o on (later y 1 seen (reach s) r) inner)
