-- What a heading asks for: the box of its fold, and the columns before it.
use Rattle.std.specs.Prelude.{ℕ, ℤ, List}
use Rattle.scm_cells.specs.Rect.{RectInRange, InRange}
use Rattle.scm_cells.specs.Mask.{MaskInRange}
use Rattle.scm_render.specs.Picture.{PictureInRange, followed_by}
use Rattle.scm_render.specs.Canvas.{Sight}
use Rattle.scm_render.specs.Drawing.{row_rect, blank_picture}
use Rattle.scm_render.proofs.PictureLemmas.{PictureInRange-left, PictureInRange-right, PictureInRange-part}
use Rattle.scm_render.proofs.StepLemmas.{span-place}
use Rattle.scm_widgets.specs.Boxes.{IdBox}
use Rattle.scm_document.specs.Rows.{Heading}
use Rattle.scm_widgets.specs.Pictures.{box_picture, fold_column}
use Rattle.scm_document.specs.Pictures.{heading_width, heading_mask, title_picture, heading_picture}

pub title-rect : (b : IdBox) (t : List ℕ) (n : ℕ) (s : Sight) (x y : ℤ) → PictureInRange (title_picture b t n s x y) → RectInRange (row_rect x y n)
unfolding title_picture blank_picture followed_by
title-rect b t n s x y r = r.areas.0

pub heading-fold : (h : Heading) (s : Sight) (x y : ℤ) → PictureInRange (heading_picture h s x y) → InRange (fold_column s)
unfolding heading_picture box_picture
heading-fold h s x y r = (span-place s (fold_column s) y _ (PictureInRange-part _ _ (PictureInRange-left _ _ r))).0

pub heading-rect : (h : Heading) (s : Sight) (x y : ℤ) → PictureInRange (heading_picture h s x y) → RectInRange (row_rect x y (heading_width s x))
unfolding heading_picture
heading-rect h s x y r = title-rect _ _ _ _ _ _ (PictureInRange-right _ _ r)

pub heading-mask : (h : Heading) (s : Sight) (x y : ℤ) → PictureInRange (heading_picture h s x y) → MaskInRange (heading_mask s x y)
heading-mask h s x y r = let e = heading-rect h s x y r in record { x = e.x; end_x = e.end_x; y = e.y; end_y = e.end_y }
