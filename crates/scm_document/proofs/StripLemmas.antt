-- Each row's picture makes of the rows of a screen what its strip says, on its own row alone; and so for rows one below another.
use Rattle.std.proofs.Common.{◌≡◌, ℕ, suc, ◌+◌, ◌-◌, ◌≤◌, Bool, true, false, cond, List, [], ◌∷◌, ◌++◌, length, length-append, map, replicate, refl, sym, ap, ◌∙◌, arith}
use Rattle.std.specs.Prelude.{ℤ, pos, ◌+ℤ◌, ◌-ℤ◌, ◌≤ℤ◌, ◌<ℤ◌, int_le, int_lt, Option, Some, None, if◌then◌else◌}
use Rattle.std.specs.Int.{int_min, int_max}
use Rattle.std.proofs.lemmas.Int.{ints}
use Rattle.std.proofs.lemmas.List.{length-map}
use Rattle.scm_cells.specs.Rect.{end_x_of, end_y_of, or_zero, rect_between, intersect_of}
use Rattle.scm_cells.specs.declared.rect.Rect.{Rect}
use Rattle.scm_cells.specs.Mask.{mask_rect_of}
use Rattle.scm_cells.specs.Row.{put}
use Rattle.scm_cells.proofs.RectLemmas.{places}
use Rattle.scm_render.specs.Picture.{nothing, followed_by, covering, part}
use Rattle.scm_render.specs.Canvas.{Row, Sight, under, paint}
use Rattle.scm_render.specs.Lines.{line}
use Rattle.scm_render.proofs.PaintLemmas.{paint-none}
use Rattle.scm_render.specs.Drawing.{reach, has_row, mask_or, row_rect, text_puts, text_picture, span_picture, blank_picture}
use Rattle.scm_render.specs.Rows.{say_texts, limit}
use Rattle.scm_render.proofs.RowsWithin.{put_within, say_within}
use Rattle.scm_render.proofs.RowLemmas.{OneRow, PutsRows, IsReached, one_none, one_more, one_same, one_text, one_said, one_row_paints, paints_none, paints_more}
use Rattle.scm_render.proofs.FillLemmas.{one_blank, blank_over}
use Rattle.scm_widgets.specs.declared.ids.ComponentId.{ComponentId}
use Rattle.scm_document.specs.OpenSights.{IsOpen}
use Rattle.scm_widgets.specs.Blanks.{blanked}
use Rattle.scm_widgets.specs.Layers.{Strip, owned}
use Rattle.scm_widgets.specs.Texts.{box_text}
use Rattle.scm_document.specs.Rows.{section_id, file_id, Heading, DocRow, HeaderRow, SectionRow, LineRow, MarkRow, ContextRow, DotsRow, BlankRow, ShownSection, ShownFile, sections_rows, file_rows}
use Rattle.scm_widgets.specs.Pictures.{to_end, box_picture, fold_column, highlight, rest_of_row, blank_rest}
use Rattle.scm_document.specs.Pictures.{heading_width, heading_mask, title_picture, heading_picture, changed_picture, context_picture, row_picture, rows_picture, sections_picture, shown_file_picture, file_mask, pinned_mask, mask_row, pinned_header}
use Rattle.scm_document.specs.Strips.{heading_strip, row_strip, is_of_section, everywhere, section_strips, sections_strips, header_strip, file_strips}

-- ---- limits as columns of the screen

-- a screen of w columns from column 0 on, and the columns of it from a to before b
pub record IsBetween (v m : Rect) (w a b : ℕ) : Type 0 where
  pub left : v.x ≡ pos 0
  pub width : v.width ≡ w
  pub low : m.x ≡ pos a
  pub high : end_x_of m ≡ pos b
  pub first : a ≤ w
  pub last : b ≤ w

low-limit : (v m : Rect) (w a b : ℕ) → IsBetween v m w a b → limit v m.x ≡ a
low-limit v m w a b i = omega (arith, places, i.left, i.width, i.low, i.first)

high-limit : (v m : Rect) (w a b : ℕ) → IsBetween v m w a b → limit v (end_x_of m) ≡ b
high-limit v m w a b i = omega (arith, places, i.left, i.width, i.high, i.last)

put-between : (v m : Rect) (w a b : ℕ) (x : ℤ) (c : ℕ) (t : List ℕ) (row : Row) → IsBetween v m w a b → x ≡ pos c → put_within v m x t row ≡ put row (pos c) t a b
put-between v m w a b x c t row i e =
    let column : x -ℤ v.x ≡ pos c = omega (arith, ints, i.left, e) in
    let low = low-limit v m w a b i in
    let high = high-limit v m w a b i in
    rw (column, low, high) refl

say-between : (v m : Rect) (w a b : ℕ) (x : ℤ) (c : ℕ) (ts : List (List ℕ)) (row : Row) → IsBetween v m w a b → x ≡ pos c → say_within v m x ts row ≡ say_texts row (pos c) ts a b
say-between v m w a b x c ts row i e =
    let column : x -ℤ v.x ≡ pos c = omega (arith, ints, i.left, e) in
    let low = low-limit v m w a b i in
    let high = high-limit v m w a b i in
    rw (column, low, high) refl

pub box-paints : (v seen m : Rect) (w a b : ℕ) (x y : ℤ) (c : ℕ) (t : List ℕ) → IsBetween v m w a b → x ≡ pos c → IsReached seen m y → OneRow v seen y (text_puts m x y t) (λ row. put row (pos c) t a b)
box-paints v seen m w a b x y c t i e r = one_same v seen y _ _ _ (λ row. put-between v m w a b x c t row i e) (one_text v seen m x y t r)

pub text-paints : (seen : Rect) (s : Sight) (w a b : ℕ) (x y : ℤ) (c : ℕ) (ts : List (List ℕ)) → IsBetween s.rect (reach s) w a b → x ≡ pos c → IsReached seen (reach s) y
    → OneRow s.rect seen y (text_picture {K = ComponentId} s x y ts).puts (λ row. say_texts row (pos c) ts a b)
text-paints seen s w a b x y c ts i e r = one_same s.rect seen y _ _ _ (λ row. say-between s.rect (reach s) w a b x c ts row i e) (one_said ComponentId seen s x y ts r)

-- ---- sights

pub open-between : (s : Sight) (w : ℕ) → IsOpen s w → IsBetween s.rect (reach s) w 0 w
open-between s w o = record { left = o.left; width = o.width; low = o.low; high = omega (arith, ints, o.low, o.columns); first = omega arith; last = omega arith }

-- the rows that are seen are all on the screen
abbrev pub IsOnScreen : Rect → Rect → Type 0
IsOnScreen seen v = (z : ℤ) → has_row seen z ≡ true → has_row v z ≡ true

under-x : (x y : ℤ) (n : ℕ) (h : Option ℕ) (s : Sight) → (reach (under (record { x = x; y = y; width = Some n; height = h }) s)).x ≡ int_max x s.rect.x
unfolding reach rect_between
under-x x y n h s = refl

under-end : (x y : ℤ) (n : ℕ) (h : Option ℕ) (s : Sight)
    → end_x_of (reach (under (record { x = x; y = y; width = Some n; height = h }) s)) ≡ int_max x s.rect.x +ℤ pos (or_zero (int_min (x +ℤ pos n) (end_x_of s.rect) -ℤ int_max x s.rect.x))
unfolding reach rect_between
under-end x y n h s = refl

under-row : (x y : ℤ) (n : ℕ) (s : Sight) → (reach (under (record { x = x; y = y; width = Some n; height = Some 1 }) s)).y ≡ int_max y s.rect.y
unfolding reach rect_between
under-row x y n s = refl

under-bottom : (x y : ℤ) (n : ℕ) (s : Sight)
    → end_y_of (reach (under (record { x = x; y = y; width = Some n; height = Some 1 }) s)) ≡ int_max y s.rect.y +ℤ pos (or_zero (int_min (y +ℤ pos 1) (end_y_of s.rect) -ℤ int_max y s.rect.y))
unfolding reach rect_between
under-bottom x y n s = refl

in-row : (m : Rect) (y : ℤ) → m.y ≡ y → end_y_of m ≡ y +ℤ pos 1 → has_row m y ≡ true
in-row m y top end =
    let a : int_le m.y y ≡ true = grind (arith, ints, top) in
    let b : int_lt y (end_y_of m) ≡ true = grind (arith, ints, end) in
    rw (a, b) refl

-- under a mask of one row drawing reaches that row
one_row-reached : (x y : ℤ) (n : ℕ) (s : Sight) → has_row s.rect y ≡ true → has_row (reach (under (record { x = x; y = y; width = Some n; height = Some 1 }) s)) y ≡ true
one_row-reached x y n s h =
    let above : s.rect.y ≤ℤ y = grind (arith, ints, h) in
    let below : y <ℤ end_y_of s.rect = grind (arith, ints, h) in
    let top : (reach (under (record { x = x; y = y; width = Some n; height = Some 1 }) s)).y ≡ y = under-row x y n s ∙ omega (arith, places) in
    let end : end_y_of (reach (under (record { x = x; y = y; width = Some n; height = Some 1 }) s)) ≡ y +ℤ pos 1 = under-bottom x y n s ∙ omega (arith, places) in
    in-row (reach (under (record { x = x; y = y; width = Some n; height = Some 1 }) s)) y top end

-- ---- headings

pub fold-place : (s : Sight) (w : ℕ) → 3 ≤ w → IsOpen s w → fold_column s ≡ pos (w - 3)
fold-place s w h o = omega (arith, ints, o.low, o.columns)

pub heading-columns : (s : Sight) (w c : ℕ) → c + 8 ≤ w → IsOpen s w → heading_width s (pos c) ≡ w - 3 - c
heading-columns s w c h o = let fold = fold-place s w (omega arith) o in omega (arith, places, fold)

abbrev pub beside_fold : Sight → ℕ → ℤ → Sight
beside_fold s c y = under (heading_mask s (pos c) y) s

pub heading-between : (s : Sight) (w c : ℕ) (y : ℤ) → c + 8 ≤ w → IsOpen s w → IsBetween s.rect (reach (beside_fold s c y)) w c (w - 3)
heading-between s w c y h o =
    let n = heading-columns s w c h o in
    let low = under-x (pos c) y (heading_width s (pos c)) (Some 1) s in
    let high = under-end (pos c) y (heading_width s (pos c)) (Some 1) s in
    record {
      left = o.left;
      width = o.width;
      low = low ∙ omega (arith, places, o.left);
      high = high ∙ omega (arith, places, o.left, o.width, n);
      first = omega arith;
      last = omega arith;
    }

heading-reached : (s : Sight) (seen : Rect) (c : ℕ) (y : ℤ) → IsOnScreen seen s.rect → IsReached seen (reach (beside_fold s c y)) y
heading-reached s seen c y on h = one_row-reached (pos c) y (heading_width s (pos c)) s (on y h)

-- the part of a row that is blanked
blank-x : (x y : ℤ) (n : ℕ) (m : Rect) → (intersect_of (row_rect x y n) m).x ≡ int_max x m.x
unfolding rect_between
blank-x x y n m = refl

blank-width : (x y : ℤ) (n : ℕ) (m : Rect) → (intersect_of (row_rect x y n) m).width ≡ or_zero (int_min (x +ℤ pos n) (end_x_of m) -ℤ int_max x m.x)
unfolding rect_between
blank-width x y n m = refl

blank-between : (v m q : Rect) (w a b : ℕ) (row : Row) → IsBetween v m w a b → a ≤ b → q.x ≡ pos a → q.width ≡ b - a → blank_over v q row ≡ blanked a b row
blank-between v m q w a b row i h e n =
    let own : IsBetween v q w a b = record { left = i.left; width = i.width; low = e; high = omega (arith, ints, e, n); first = i.first; last = i.last } in
    put-between v q w a b q.x a (replicate q.width 32) row own e ∙ ap (λ k. put row (pos a) (replicate k 32) a b) n

blank-paints : (seen : Rect) (s : Sight) (w c : ℕ) (y : ℤ) → c + 8 ≤ w → IsOpen s w → IsOnScreen seen s.rect
    → OneRow s.rect seen y (blank_picture {K = ComponentId} (beside_fold s c y) (row_rect (pos c) y (heading_width s (pos c)))).puts (blanked c (w - 3))
blank-paints seen s w c y h o on =
    let m = reach (beside_fold s c y) in
    let n = heading-columns s w c h o in
    let i = heading-between s w c y h o in
    let q = intersect_of (row_rect (pos c) y (heading_width s (pos c))) m in
    let from : q.x ≡ pos c = blank-x (pos c) y (heading_width s (pos c)) m ∙ omega (arith, places, i.low) in
    let columns : q.width ≡ w - 3 - c = blank-width (pos c) y (heading_width s (pos c)) m ∙ omega (arith, places, i.low, i.high, n) in
    one_same s.rect seen y _ _ _ (λ row. blank-between s.rect m q w c (w - 3) row i (omega arith) from columns)
    (one_blank ComponentId s.rect seen (beside_fold s c y) (pos c) y (heading_width s (pos c)) (heading-reached s seen c y on))

-- a row that is blanked from a column on
pub rest-paints : (seen : Rect) (s : Sight) (w c : ℕ) (y : ℤ) → c ≤ w → IsOpen s w → IsReached seen (reach s) y → OneRow s.rect seen y (blank_rest s (pos c) y).puts (blanked c w)
rest-paints seen s w c y h o r =
    let m = reach s in
    let n : to_end s (pos c) ≡ w - c = omega (arith, places, o.low, o.columns, h) in
    let q = intersect_of (rest_of_row s (pos c) y) m in
    let from : q.x ≡ pos c = blank-x (pos c) y (to_end s (pos c)) m ∙ omega (arith, places, o.low) in
    let columns : q.width ≡ w - c = blank-width (pos c) y (to_end s (pos c)) m ∙ omega (arith, places, o.low, o.columns, n, h) in
    let i : IsBetween s.rect q w c w = record { left = o.left; width = o.width; low = from; high = omega (arith, ints, from, columns, h); first = h; last = omega arith } in
    one_same s.rect seen y _ _ _ (λ row. blank-between s.rect q q w c w row i h from columns) (one_blank ComponentId s.rect seen s (pos c) y (to_end s (pos c)) r)

pub heading-paints : (h : Heading) (seen : Rect) (s : Sight) (w c : ℕ) (y : ℤ) → c + 8 ≤ w → IsOpen s w → IsOnScreen seen s.rect → IsReached seen (reach s) y
    → OneRow s.rect seen y (heading_picture h s (pos c) y).puts (heading_strip w c h).shows
unfolding heading_picture title_picture followed_by part box_picture span_picture
heading-paints h seen s w c y fits o on r =
    let i = heading-between s w c y fits o in
    let m = reach (beside_fold s c y) in
    let inner = heading-reached s seen c y on in
    one_more s.rect seen y _ _ _ _ (box-paints s.rect seen (reach s) w 0 w (fold_column s) y (w - 3) (box_text h.fold) (open-between s w o) (fold-place s w (omega arith) o) r)
    (one_more s.rect seen y _ _ _ _ (blank-paints seen s w c y fits o on)
    (one_more s.rect seen y _ _ _ _ (box-paints s.rect seen m w c (w - 3) (pos c) y c (box_text h.toggle) i refl inner)
    (text-paints seen (beside_fold s c y) w c (w - 3) (pos c +ℤ pos 4) y (c + 4) (h.title ∷ []) i refl inner)))

-- ---- rows

-- a header stands at column 0, the rows of a section at column 2
abbrev pub column_of : DocRow → ℕ
column_of (HeaderRow key h) = 0
column_of _ = 2

pub no-highlight : (b : Bool) (s : Sight) (y : ℤ) → (highlight b s y).puts ≡ []
unfolding covering nothing
no-highlight true s y = refl
no-highlight false s y = refl

pub row-paints : (d : DocRow) (seen : Rect) (s : Sight) (w : ℕ) (y : ℤ) → 10 ≤ w → IsOpen s w → IsOnScreen seen s.rect → IsReached seen (reach s) y
    → OneRow s.rect seen y (row_picture d s (pos (column_of d)) y).puts (row_strip w d).shows
unfolding row_picture row_strip followed_by part covering changed_picture context_picture box_picture span_picture
row-paints (HeaderRow key h) seen s w y fits o on r = heading-paints h seen s w 0 y (omega arith) o on r
row-paints (SectionRow selected h) seen s w y fits o on r =
    rw (no-highlight selected s y) (one_more s.rect seen y _ [] _ (λ row. row) (heading-paints h seen s w 2 y (omega arith) o on r) (one_none s.rect seen y))
row-paints (LineRow key b ts) seen s w y fits o on r =
    let i = open-between s w o in
    one_more s.rect seen y _ _ _ _ (box-paints s.rect seen (reach s) w 0 w (pos 2 +ℤ pos 2) y 4 (box_text b) i refl r)
    (text-paints seen s w 0 w ((pos 2 +ℤ pos 2) +ℤ pos 4) y 8 ts i refl r)
row-paints (MarkRow selected b t) seen s w y fits o on r =
    let i = open-between s w o in
    rw (no-highlight selected s y)
    (one_more s.rect seen y _ _ _ _ (box-paints s.rect seen (reach s) w 0 w (pos 2) y 2 (box_text b) i refl r)
    (one_more s.rect seen y _ [] _ (λ row. row) (text-paints seen s w 0 w (pos 2 +ℤ pos 4) y 6 (t ∷ []) i refl r) (one_none s.rect seen y)))
row-paints (ContextRow key ts) seen s w y fits o on r = text-paints seen s w 0 w (pos 2 +ℤ pos 2) y 4 ts (open-between s w o) refl r
row-paints (DotsRow t) seen s w y fits o on r = box-paints s.rect seen (reach s) w 0 w (pos 2 +ℤ pos 6) y 8 t (open-between s w o) refl r
row-paints BlankRow seen s w y fits o on r = rest-paints seen s w 2 y (omega (arith, fits)) o r

-- ---- rows one below another

-- no row is a file's header
abbrev pub AreInner : List DocRow → Type 0
AreInner [] = Unit {0}
AreInner (d ∷ ds) = (column_of d ≡ 2) × AreInner ds

abbrev pub AreInnerSections : List ShownSection → Type 0
AreInnerSections [] = Unit {0}
AreInnerSections (p ∷ ps) = AreInner p.rows × AreInnerSections ps

-- drawing reaches each row from y on that is seen
abbrev pub IsReachedFrom : ℤ → Rect → Rect → Type 0
IsReachedFrom y seen m = (z : ℤ) → y ≤ℤ z → IsReached seen m z

abbrev pub shows_of : {K : Type 0} → Strip K → Row → Row
shows_of s = s.shows

pub shows-owned : (i : ComponentId) (test : ℕ → Bool) (ss : List (Strip ComponentId)) → map shows_of (map (owned i test) ss) ≡ map shows_of ss
shows-owned i test [] = refl
shows-owned i test (s ∷ ss) = ap (λ fs. s.shows ∷ fs) (shows-owned i test ss)

later : (y : ℤ) (n : ℕ) (seen m : Rect) → IsReachedFrom y seen m → IsReachedFrom (y +ℤ pos n) seen m
later y n seen m r z h = r z (omega (arith, ints, h))

pub rows-paint : (ds : List DocRow) (seen : Rect) (s : Sight) (w : ℕ) (y : ℤ) → 10 ≤ w → IsOpen s w → IsOnScreen seen s.rect → IsReachedFrom y seen (reach s) → AreInner ds
    → PutsRows s.rect seen y (rows_picture ds s (pos 2) y).puts (map shows_of (map (row_strip w) ds))
unfolding rows_picture followed_by nothing
rows-paint [] seen s w y fits o on r inner = paints_none s.rect seen y
rows-paint (d ∷ ds) seen s w y fits o on r inner =
    paints_more s.rect seen y (row_picture d s (pos 2) y).puts (rows_picture ds s (pos 2) (y +ℤ pos 1)).puts ((row_strip w d).shows ∷ []) (map shows_of (map (row_strip w) ds))
    (one_row_paints s.rect seen y _ _ (rw inner.0 at (row-paints d seen s w y fits o on (r y (omega (arith, ints))))))
    (rows-paint ds seen s w (y +ℤ pos 1) fits o on (later y 1 seen (reach s) r) inner.1)

length-shows : (w : ℕ) (ds : List DocRow) → length (map shows_of (map (row_strip w) ds)) ≡ length ds
length-shows w [] = refl
length-shows w (d ∷ ds) = ap suc (length-shows w ds)

pub map-append : {X Y : Type 0} (f : X → Y) (xs zs : List X) → map f (xs ++ zs) ≡ map f xs ++ map f zs
map-append f [] zs = refl
map-append f (x ∷ xs) zs = ap (λ l. f x ∷ l) (map-append f xs zs)

section-shows : (w : ℕ) (p : ShownSection) → map shows_of (section_strips w p) ≡ map shows_of (map (row_strip w) p.rows)
unfolding section_strips
section-shows w p = shows-owned (section_id p.key) (is_of_section p.rows) (map (row_strip w) p.rows)

pub sections-paint : (ps : List ShownSection) (seen : Rect) (s : Sight) (w : ℕ) (y : ℤ) → 10 ≤ w → IsOpen s w → IsOnScreen seen s.rect → IsReachedFrom y seen (reach s) → AreInnerSections ps
    → PutsRows s.rect seen y (sections_picture ps s (pos 2) y).puts (map shows_of (sections_strips w ps))
unfolding sections_picture sections_strips followed_by part nothing
sections-paint [] seen s w y fits o on r inner = paints_none s.rect seen y
sections-paint (p ∷ ps) seen s w y fits o on r inner =
    let n = length-shows w p.rows in
    rw (map-append shows_of (section_strips w p) (sections_strips w ps), section-shows w p)
    (paints_more s.rect seen y (rows_picture p.rows s (pos 2) y).puts (sections_picture ps s (pos 2) (y +ℤ pos (length p.rows))).puts (map shows_of (map (row_strip w) p.rows)) (map shows_of (sections_strips w ps))
    (rows-paint p.rows seen s w y fits o on r inner.0)
    (rw n (sections-paint ps seen s w (y +ℤ pos (length p.rows)) fits o on (later y (length p.rows) seen (reach s) r) inner.1)))

-- ---- files

header-shows : (w : ℕ) (pinned : Bool) (f : ShownFile) → (header_strip w pinned f).shows ≡ (row_strip w (HeaderRow f.key f.heading)).shows
header-shows w true f = refl
header-shows w false f = refl

file-shows : (w : ℕ) (pinned : Bool) (f : ShownFile) → map shows_of (file_strips w pinned f) ≡ (row_strip w (HeaderRow f.key f.heading)).shows ∷ map shows_of (sections_strips w f.sections)
unfolding file_strips
file-shows w pinned f =
    shows-owned (file_id f.key) everywhere (header_strip w pinned f ∷ sections_strips w f.sections) ∙ ap (λ g. g ∷ map shows_of (sections_strips w f.sections)) (header-shows w pinned f)

pub length-sections_strips : (w : ℕ) (ps : List ShownSection) → length (sections_strips w ps) ≡ length (sections_rows ps)
unfolding sections_strips sections_rows section_strips
length-sections_strips w [] = refl
length-sections_strips w (p ∷ ps) =
    length-append (map (owned (section_id p.key) (is_of_section p.rows)) (map (row_strip w) p.rows)) (sections_strips w ps)
    ∙ sum-of _ _ _ _ (length-map (map (row_strip w) p.rows) (owned (section_id p.key) (is_of_section p.rows)) ∙ length-map p.rows (row_strip w)) (length-sections_strips w ps)
    ∙ sym (length-append p.rows (sections_rows ps))
  where
    sum-of : (a b c d : ℕ) → a ≡ c → b ≡ d → a + b ≡ c + d
    sum-of a b c d p q = rw (p, q) refl

pub length-file_strips : (w : ℕ) (pinned : Bool) (f : ShownFile) → length (file_strips w pinned f) ≡ length (file_rows f)
unfolding file_strips file_rows
length-file_strips w pinned f = ap suc (length-map (sections_strips w f.sections) (owned (file_id f.key) everywhere) ∙ length-sections_strips w f.sections)

pub file-paints : (f : ShownFile) (pinned : Bool) (seen : Rect) (s : Sight) (w : ℕ) (y : ℤ) → 10 ≤ w → IsOpen s w → IsOnScreen seen s.rect → IsReachedFrom y seen (reach s) → AreInnerSections f.sections
    → PutsRows s.rect seen y (shown_file_picture f s (pos 0) y).puts (map shows_of (file_strips w pinned f))
unfolding shown_file_picture followed_by
file-paints f pinned seen s w y fits o on r inner =
    rw (file-shows w pinned f)
    (paints_more s.rect seen y (row_picture (HeaderRow f.key f.heading) s (pos 0) y).puts (sections_picture f.sections s (pos 2) (y +ℤ pos 1)).puts ((row_strip w (HeaderRow f.key f.heading)).shows ∷ []) (map shows_of (sections_strips w f.sections))
    (one_row_paints s.rect seen y _ _ (row-paints (HeaderRow f.key f.heading) seen s w y fits o on (r y (omega (arith, ints)))))
    (sections-paint f.sections seen s w (y +ℤ pos 1) fits o on (later y 1 seen (reach s) r) inner))

-- ---- the sights of files

all-width : (x y : ℤ) (n : ℕ) (h : Option ℕ) (s : Sight)
    → (reach (under (record { x = x; y = y; width = Some n; height = h }) s)).width ≡ or_zero (int_min (x +ℤ pos n) (end_x_of s.rect) -ℤ int_max x s.rect.x)
unfolding reach rect_between
all-width x y n h s = refl

-- under a mask from column 0 to the end
pub under-open : (s : Sight) (w : ℕ) (y : ℤ) (h : Option ℕ) → IsOpen s w → IsOpen (under (record { x = pos 0; y = y; width = Some (to_end s (pos 0)); height = h }) s) w
under-open s w y h o =
    let n : to_end s (pos 0) ≡ w = omega (arith, places, o.low, o.columns) in
    record {
      left = o.left;
      width = o.width;
      low = under-x (pos 0) y (to_end s (pos 0)) h s ∙ omega (arith, places, o.left);
      columns = all-width (pos 0) y (to_end s (pos 0)) h s ∙ omega (arith, places, o.left, o.width, n);
    }

reach-row : (s : Sight) → (reach s).y ≡ int_max (mask_or s.mask s.rect).y s.rect.y
unfolding reach rect_between
reach-row s = refl

reach-bottom : (s : Sight) → end_y_of (reach s) ≡ int_max (mask_or s.mask s.rect).y s.rect.y +ℤ pos (or_zero (int_min (end_y_of (mask_rect_of (mask_or s.mask s.rect) s.rect)) (end_y_of s.rect) -ℤ int_max (mask_or s.mask s.rect).y s.rect.y))
unfolding reach rect_between
reach-bottom s = refl

from-row : (m : Rect) (z : ℤ) → has_row m z ≡ true → m.y ≤ℤ z
from-row m z h = grind (arith, ints, h)

before-row : (m : Rect) (z : ℤ) → has_row m z ≡ true → z <ℤ end_y_of m
before-row m z h = grind (arith, ints, h)

has-row : (m : Rect) (z : ℤ) → m.y ≤ℤ z → z <ℤ end_y_of m → has_row m z ≡ true
has-row m z h k =
    let a : int_le m.y z ≡ true = grind (arith, ints, h) in
    let b : int_lt z (end_y_of m) ≡ true = grind (arith, ints, k) in
    rw (a, b) refl

-- the rows that a mask lets through are on the screen
pub reach-on_screen : (s : Sight) → IsOnScreen (reach s) s.rect
reach-on_screen s z h =
    let top = reach-row s in
    let end = reach-bottom s in
    let a = from-row (reach s) z h in
    let b = before-row (reach s) z h in
    let m = mask_or s.mask s.rect in
    has-row s.rect z (below (reach s).y m.y s.rect.y top a) (above (end_y_of (reach s)) m.y s.rect.y (end_y_of (mask_rect_of m s.rect)) (end_y_of s.rect) end (least (reach s).y (int_max m.y s.rect.y) top a) b)
  where
    least : (a b : ℤ) → a ≡ b → a ≤ℤ z → b ≤ℤ z
    least a b e h = omega (arith, ints, e, h)

    below : (a m v : ℤ) → a ≡ int_max m v → a ≤ℤ z → v ≤ℤ z
    below a m v e h = omega (arith, places, e, h)

    above : (b m v e f : ℤ) → b ≡ int_max m v +ℤ pos (or_zero (int_min e f -ℤ int_max m v)) → int_max m v ≤ℤ z → z <ℤ b → z <ℤ f
    above b m v e f p l h = omega (arith, places, p, l, h)

file-top : (x y : ℤ) (n : ℕ) (s : Sight) → (reach (under (record { x = x; y = y; width = Some n; height = None }) s)).y ≡ int_max y s.rect.y
unfolding reach rect_between
file-top x y n s = refl

file-bottom : (x y : ℤ) (n : ℕ) (s : Sight)
    → end_y_of (reach (under (record { x = x; y = y; width = Some n; height = None }) s)) ≡ int_max y s.rect.y +ℤ pos (or_zero (int_min (y +ℤ pos (or_zero (end_y_of s.rect -ℤ y))) (end_y_of s.rect) -ℤ int_max y s.rect.y))
unfolding reach rect_between
file-bottom x y n s = refl

-- under the mask of a file drawing reaches all rows of the screen from its first on
file-reached : (s : Sight) (x y : ℤ) → IsReachedFrom y (reach s) (reach (under (file_mask s x y) s))
file-reached s x y z h on =
    let shown = reach-on_screen s z on in
    let a = from-row s.rect z shown in
    let b = before-row s.rect z shown in
    let m = reach (under (file_mask s x y) s) in
    has-row m z (top m.y s.rect.y (file-top x y (to_end s x) s) a) (end (end_y_of m) s.rect.y (end_y_of s.rect) (file-bottom x y (to_end s x) s) a b)
  where
    top : (t v : ℤ) → t ≡ int_max y v → v ≤ℤ z → t ≤ℤ z
    top t v e p = omega (arith, places, e, p, h)

    end : (t v f : ℤ) → t ≡ int_max y v +ℤ pos (or_zero (int_min (y +ℤ pos (or_zero (f -ℤ y))) f -ℤ int_max y v)) → v ≤ℤ z → z <ℤ f → z <ℤ t
    end t v f e p q = omega (arith, places, e, p, q, h)

-- ---- files and pinned headers, on the rows that the mask lets through

pub whole_file-paints : (f : ShownFile) (pinned : Bool) (s : Sight) (w : ℕ) (y : ℤ) → 10 ≤ w → IsOpen s w → AreInnerSections f.sections
    → PutsRows s.rect (reach s) y (shown_file_picture f (under (file_mask s (pos 0) y) s) (pos 0) y).puts (map shows_of (file_strips w pinned f))
whole_file-paints f pinned s w y fits o inner =
    file-paints f pinned (reach s) (under (file_mask s (pos 0) y) s) w y fits (under-open s w y None o) (reach-on_screen s) (file-reached s (pos 0) y) inner

-- what a list of at most one strip makes of a row
abbrev pub made_by : List (Strip ComponentId) → ℤ → ℤ → Row → Row
made_by ss y z = line (λ r. r) (map shows_of ss) y z

pub pinned-paints : (f : ShownFile) (s : Sight) (w m : ℕ) (b : Bool) → 10 ≤ w → IsOpen s w → mask_row s ≡ pos m → (z : ℤ) (row : Row) → has_row (reach s) z ≡ true
    → paint s.rect (if b then pinned_header f s (pos 0) (mask_row s) else nothing).puts z row ≡ made_by (cond b (row_strip w (HeaderRow f.key f.heading) ∷ []) []) (pos m) z row
unfolding nothing line
pinned-paints f s w m true fits o e z row h =
    rw e (one_row_paints s.rect (reach s) (pos m) _ _
    (row-paints (HeaderRow f.key f.heading) (reach s) (under (pinned_mask s (pos 0) (pos m)) s) w (pos m) fits (under-open s w (pos m) (Some 1) o) (reach-on_screen s)
    (λ k. one_row-reached (pos 0) (pos m) (to_end s (pos 0)) s (reach-on_screen s (pos m) k))) z row h)
pinned-paints f s w m false fits o e z row h = paint-none s.rect z row
