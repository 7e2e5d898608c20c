-- Texts on rows below one another.
use Rattle.std.proofs.Common.{◌≡◌, ℕ, ◌+◌, ◌<◌, ◌≤◌, ℤ, pos, ◌+ℤ◌, List, [], ◌∷◌, length, drop, get_or, refl, arith, add-one, drop-cons, FitsSigned, w64}
use Rattle.std.proofs.lemmas.List.{drop_all}
use Rattle.std.proofs.lemmas.Int.{ints}
use Rattle.scm_cells.specs.Rect.{RectInRange, InRange}
use Rattle.scm_render.specs.Picture.{Picture, PictureInRange, nothing, followed_by, part}
use Rattle.scm_render.specs.Canvas.{Sight}
use Rattle.scm_render.specs.Drawing.{row_rect, texts_width}
use Rattle.scm_render.specs.Laws.{CallsHaveRects, PartsAreInRange}
use Rattle.scm_screen_tests.specs.declared.samples.Caption.{Caption}
use Rattle.scm_screen_tests.specs.Samples.{caption_picture, column_picture}

-- the row of a text is in range, so it and the row below it fit
caption_row : CallsHaveRects ℕ → (c : Caption) (s : Sight) (x y : ℤ) → PictureInRange (caption_picture c s x y) → InRange y
unfolding caption_picture
caption_row rects c s x y r = let whole : RectInRange (row_rect x y (texts_width (c.text.now ∷ []))) = rects.texts s x y (c.text.now ∷ []) r in whole.y

pub caption_row-fits : CallsHaveRects ℕ → (c : Caption) (s : Sight) (x y : ℤ) → PictureInRange (caption_picture c s x y) → FitsSigned w64 y
caption_row-fits rects c s x y r = let at : InRange y = caption_row rects c s x y r in omega (arith, ints)

pub row_below-fits : CallsHaveRects ℕ → PartsAreInRange ℕ → (c : Caption) (s : Sight) (x y : ℤ) (m : Picture ℕ) → PictureInRange (followed_by (part c.id (caption_picture c s x y)) m) → FitsSigned w64 (y +ℤ pos 1)
row_below-fits rects parts c s x y m r =
    let at : InRange y = caption_row rects c s x y (parts.inner _ _ (parts.first _ _ r)) in omega (arith, ints)

-- the picture from the i-th text on
pub column_picture-more : (cs : List Caption) (i : ℕ) (d : Caption) (s : Sight) (x y : ℤ) → i < length cs
    → column_picture (drop i cs) s x y ≡ followed_by (part (get_or cs i d).id (caption_picture (get_or cs i d) s x y)) (column_picture (drop (i + 1) cs) s x (y +ℤ pos 1))
unfolding column_picture
column_picture-more cs i d s x y h = rw (add-one, drop-cons cs i d h) refl

pub column_picture-end : (cs : List Caption) (i : ℕ) (s : Sight) (x y : ℤ) → length cs ≤ i → column_picture (drop i cs) s x y ≡ nothing
unfolding column_picture
column_picture-end cs i s x y h = rw (drop_all i cs h) refl
