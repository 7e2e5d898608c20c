-- Pictures off the screen: what covers as much, with the same boxes, leaves the same.
use Rattle.std.proofs.Common.{◌≡◌, ℕ, suc, ◌<◌, List, [], ◌∷◌, length, refl, sym, ap, ◌∙◌, arith, true, false}
use Rattle.std.specs.Prelude.{ℤ, pos, ◌+ℤ◌}
use Rattle.std.proofs.lemmas.Int.{ints}
use Rattle.scm_cells.specs.Clusters.{text_width}
use Rattle.scm_cells.specs.Counts.{Counts, no_counts, added}
use Rattle.scm_cells.specs.declared.rect.Rect.{Rect}
use Rattle.scm_render.specs.Picture.{Put, covering, part, box_rect}
use Rattle.scm_render.specs.Canvas.{Row, Canvas, kept, kept_area, paint, paint_rows, with_picture}
use Rattle.scm_render.specs.Drawing.{reach, has_row, row_rect, span_picture, blank_picture}
use Rattle.scm_render.proofs.CanvasLemmas.{canvas-same}
use Rattle.scm_render.proofs.CountLemmas.{added-none}
use Rattle.scm_render.proofs.PaintLemmas.{painted-none}
use Rattle.scm_render.proofs.RowLemmas.{OneRow, IsReached, not_seen, one_text}
use Rattle.scm_render.proofs.FillLemmas.{one_blank}
use Rattle.scm_widgets.specs.declared.ids.ComponentId.{ComponentId}
use Rattle.scm_widgets.specs.declared.button.Button.{Button}
use Rattle.scm_widgets.specs.Texts.{box_text, button_text}
use Rattle.scm_widgets.specs.Boxes.{IdBox}
use Rattle.scm_widgets.specs.Pictures.{IdPicture, box_picture, box_part, button_picture}
use Rattle.scm_widgets.specs.Buttons.{button_width, button_part}
use Rattle.scm_widgets.specs.Counts.{on_row}
use Rattle.scm_widgets.proofs.BoxLemmas.{box-width}

-- puts that leave each row of the screen leave all of them
pub painted-same : (v : Rect) (ps : List Put) (z : ℤ) (rows : List Row) → ((k : ℕ) (row : Row) → k < length rows → paint v ps (z +ℤ pos k) row ≡ row) → paint_rows v ps z rows ≡ rows
unfolding paint_rows
painted-same v ps z [] h = refl
painted-same v ps z (row ∷ rows) h =
    let first : z ≡ z +ℤ pos 0 = omega (arith, ints) in
    let one : paint v ps z row ≡ row = ap (λ k. paint v ps k row) first ∙ h 0 row (omega arith) in
    let more = painted-same v ps (z +ℤ pos 1) rows (λ k r l.
    let same : (z +ℤ pos 1) +ℤ pos k ≡ z +ℤ pos (suc k) = omega (arith, ints) in
    ap (λ w. paint v ps w r) same ∙ h (suc k) r (omega arith)) in
    ap (λ w. w ∷ paint_rows v ps (z +ℤ pos 1) rows) one ∙ ap (λ w. row ∷ w) more

pub on-screen : (v : Rect) (k : ℕ) → k < v.height → has_row v (v.y +ℤ pos k) ≡ true
on-screen v k h = grind (arith, ints)

off-screen : (v : Rect) (y : ℤ) (ps : List Put) (f : Row → Row) (rows : List Row) → length rows ≡ v.height → has_row v y ≡ false → OneRow v v y ps f → paint_rows v ps v.y rows ≡ rows
off-screen v y ps f rows n e one =
    painted-same v ps v.y rows (λ k row l.
    let seen = on-screen v k (omega (arith, n)) in
    rw (not_seen v y e (v.y +ℤ pos k) seen) at (one (v.y +ℤ pos k) row seen))

pub no-reach : (v m : Rect) (y : ℤ) → has_row v y ≡ false → IsReached v m y
no-reach v m y e h = absurd (cc (h, e))

-- a picture on a row that the screen has not, and one of the same boxes and areas that puts nothing
pub hidden : (c : Canvas ComponentId) (y : ℤ) (p q : IdPicture) (f : Row → Row) → length c.rows ≡ c.sight.rect.height → has_row c.sight.rect y ≡ false → OneRow c.sight.rect c.sight.rect y p.puts f
    → q.puts ≡ [] → q.boxes ≡ p.boxes → q.areas ≡ p.areas → with_picture c q ≡ with_picture c p
unfolding with_picture
hidden c y p q f n e one none b a =
    canvas-same _ _ refl
    (ap (λ ps. paint_rows c.sight.rect ps c.sight.rect.y c.rows) none ∙ painted-none c.sight.rect c.sight.rect.y c.rows ∙ sym (off-screen c.sight.rect y p.puts f c.rows n e one))
    (ap (kept_area c.boxes c.area) a) (ap (kept c.boxes) b)

pub span-hidden : (c : Canvas ComponentId) (x y : ℤ) (t : List ℕ) → length c.rows ≡ c.sight.rect.height → has_row c.sight.rect y ≡ false
    → with_picture c (covering (row_rect x y (text_width t))) ≡ with_picture c (span_picture c.sight x y t)
unfolding span_picture covering
span-hidden c x y t n e = hidden c y (span_picture c.sight x y t) (covering (row_rect x y (text_width t))) _ n e (one_text c.sight.rect c.sight.rect (reach c.sight) x y t (no-reach c.sight.rect (reach c.sight) y e)) refl refl refl

pub blank-hidden : (c : Canvas ComponentId) (x y : ℤ) (w : ℕ) → length c.rows ≡ c.sight.rect.height → has_row c.sight.rect y ≡ false
    → with_picture c (covering (row_rect x y w)) ≡ with_picture c (blank_picture c.sight (row_rect x y w))
unfolding blank_picture covering
blank-hidden c x y w n e = hidden c y (blank_picture c.sight (row_rect x y w)) (covering (row_rect x y w)) _ n e (one_blank ComponentId c.sight.rect c.sight.rect c.sight x y w (no-reach c.sight.rect (reach c.sight) y e)) refl refl refl

-- a span as a part
part-hidden : (c : Canvas ComponentId) (id : ComponentId) (x y : ℤ) (t : List ℕ) → length c.rows ≡ c.sight.rect.height → has_row c.sight.rect y ≡ false
    → with_picture c (part id (covering (row_rect x y (text_width t)))) ≡ with_picture c (part id (span_picture c.sight x y t))
unfolding span_picture covering part box_rect
part-hidden c id x y t n e = hidden c y (part id (span_picture c.sight x y t)) (part id (covering (row_rect x y (text_width t)))) _ n e (one_text c.sight.rect c.sight.rect (reach c.sight) x y t (no-reach c.sight.rect (reach c.sight) y e)) refl refl refl

pub box-hidden : (c : Canvas ComponentId) (b : IdBox) (x y : ℤ) → length c.rows ≡ c.sight.rect.height → has_row c.sight.rect y ≡ false
    → with_picture c (part b.id (covering (row_rect x y 3))) ≡ with_picture c (box_part b c.sight x y)
unfolding box_picture
box-hidden c b x y n e = ap (λ w. with_picture c (part b.id (covering (row_rect x y w)))) (sym (box-width b)) ∙ part-hidden c b.id x y (box_text b) n e

pub button-hidden : (c : Canvas ComponentId) (b : Button ComponentId) (x y : ℤ) → length c.rows ≡ c.sight.rect.height → has_row c.sight.rect y ≡ false
    → with_picture c (part b.id (covering (row_rect x y (button_width b)))) ≡ with_picture c (button_part b c.sight x y)
unfolding button_picture button_width
button-hidden c b x y n e = part-hidden c b.id x y (button_text b) n e

-- ---- so much on a row

pub on_row-shown : (v : Rect) (y : ℤ) (n : Counts) → has_row v y ≡ true → on_row v y n ≡ n
unfolding on_row
on_row-shown v y n e = rw e refl

pub on_row-hidden : (v : Rect) (y : ℤ) (n : Counts) → has_row v y ≡ false → on_row v y n ≡ no_counts
unfolding on_row
on_row-hidden v y n e = rw e refl

pub counted-shown : (c d : Counts) (v : Rect) (y : ℤ) (n : Counts) → has_row v y ≡ true → d ≡ added c n → d ≡ added c (on_row v y n)
counted-shown c d v y n e p = p ∙ ap (added c) (sym (on_row-shown v y n e))

pub counted-hidden : (c d : Counts) (v : Rect) (y : ℤ) (n : Counts) → has_row v y ≡ false → d ≡ c → d ≡ added c (on_row v y n)
counted-hidden c d v y n e p = p ∙ sym (added-none c) ∙ ap (added c) (sym (on_row-hidden v y n e))
