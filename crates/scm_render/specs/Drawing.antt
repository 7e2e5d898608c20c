-- The picture of each draw call.
use Rattle.std.specs.Prelude.{ℕ, zero, suc, ◌-◌, ◌&&◌, ℤ, pos, ◌+ℤ◌, ◌-ℤ◌, int_le, int_lt, Bool, List, [], ◌∷◌, ◌++◌, Option, Some, None, if◌then◌else◌, sum_by, encode_utf8, take, map}
use denote.Ref.{Bor}
use Rattle.std.specs.Ordering.{int_eq}
use Rattle.scm_cells.specs.Rect.{RectInRange, is_empty, end_x_of, end_y_of, intersect_of}
use Rattle.scm_cells.specs.Mask.{apply_of}
use Rattle.scm_cells.specs.declared.rect.Rect.{Rect}
use Rattle.scm_cells.specs.declared.mask.Mask.{Mask}
use Rattle.scm_cells.specs.Clusters.{text_width}
use Rattle.scm_cells.specs.Row.{ellipsis}
use Rattle.scm_render.specs.Picture.{Put, Picture, nothing, followed_by}
use Rattle.scm_render.specs.declared.filling.Filling.{Filling}
use Rattle.scm_render.specs.declared.filling.Filling.TheVariants.{Blank, Border}
use Rattle.scm_render.specs.Canvas.{Sight}

-- ---- the visible part of the screen

-- the rectangle as a mask
abbrev pub whole_mask : Rect → Mask
whole_mask r = record { x = r.x; y = r.y; width = Some r.width; height = Some r.height }

-- the mask, or the rectangle if no mask is set
abbrev pub mask_or : Option Mask → Rect → Mask
mask_or (Some m) r = m
mask_or None r = whole_mask r

-- the part of the screen that the mask lets through
unfoldable pub reach : Sight → Rect
reach s = apply_of (mask_or s.mask s.rect) s.rect

-- whether the rectangle has row `y`
abbrev pub has_row : Rect → ℤ → Bool
has_row r y = int_le r.y y && int_lt y (end_y_of r)

-- ---- texts

-- a text at column `x` of row `y`, clipped to the columns of the rectangle
abbrev pub whole_put : Rect → ℤ → ℤ → List ℕ → Put
whole_put r x y t = record { row = y; column = x; text = t; low = r.x; high = end_x_of r }

-- a text at column `x` of row `y`, clipped to the rectangle; no put on rows outside it
unfoldable pub text_puts : Rect → ℤ → ℤ → List ℕ → List Put
text_puts r x y t = if has_row r y then whole_put r x y t ∷ [] else []

-- the rectangle of `width` columns of row `y` from column `x`
abbrev pub row_rect : ℤ → ℤ → ℕ → Rect
row_rect x y width = record { x = x; y = y; width = width; height = 1 }

-- the width of texts side by side, in columns
unfoldable pub texts_width : List (List ℕ) → ℕ
texts_width ts = sum_by text_width ts

-- texts side by side from column `x` of row `y`, clipped to the rectangle
unfoldable pub texts_puts : Rect → ℤ → ℤ → List (List ℕ) → List Put
texts_puts r x y [] = []
texts_puts r x y (t ∷ ts) = text_puts r x y t ++ texts_puts r (x +ℤ pos (text_width t)) y ts

module _ {K : Type 0} where
  -- a text at column `x` of row `y`, clipped to the visible part
  unfoldable pub span_picture : Sight → ℤ → ℤ → List ℕ → Picture K
  span_picture s x y t = record {
    puts = text_puts (reach s) x y t;
    boxes = [];
    areas = row_rect x y (text_width t) ∷ [];
  }

  -- the texts of a line side by side from column `x` of row `y`
  unfoldable pub line_picture : Sight → ℤ → ℤ → List (List ℕ) → Picture K
  line_picture s x y ts = record {
    puts = texts_puts (reach s) x y ts;
    boxes = [];
    areas = row_rect x y (texts_width ts) ∷ [];
  }

  -- a line, with an ellipsis in the last visible column if the line is longer
  unfoldable pub text_picture : Sight → ℤ → ℤ → List (List ℕ) → Picture K
  text_picture s x y ts =
      let end = end_x_of (reach s) in
      followed_by (line_picture s x y ts)
      (if int_lt end (x +ℤ pos (texts_width ts)) then span_picture s (end -ℤ pos 1) y ellipsis else nothing)

-- ---- symbols over a rectangle

-- the symbol of column `x` in a row of a frame: the first, the last, or one between
abbrev pub edge_symbol : Rect → ℤ → ℕ → ℕ → ℕ → ℕ
edge_symbol r x first between last =
    if int_eq x r.x then first else if int_eq x (end_x_of r -ℤ pos 1) then last else between

-- the character of a cell of a frame: a corner, an edge, or a space inside
unfoldable pub border_symbol : Rect → ℤ → ℤ → ℕ
border_symbol r x y =
    if int_eq y r.y then edge_symbol r x 0x250C 0x2500 0x2510
    else if int_eq y (end_y_of r -ℤ pos 1) then edge_symbol r x 0x2514 0x2500 0x2518
    else edge_symbol r x 0x2502 0x20 0x2502

-- the character of a cell of the filling
unfoldable pub symbol_at : Filling → ℤ → ℤ → ℕ
symbol_at Blank x y = 0x20
symbol_at (Border r) x y = border_symbol r x y

-- the frame of the filling is in range
abbrev pub FillingIsInRange : Filling → Type 0
FillingIsInRange Blank = Unit {0}
FillingIsInRange (Border r) = RectInRange r

-- the text of as many cells as the last argument, from column `x` of row `y`
unfoldable pub row_text : Filling → ℤ → ℤ → ℕ → List ℕ
row_text f x y zero = []
row_text f x y (suc n) = encode_utf8 (symbol_at f x y) ++ row_text f (x +ℤ pos 1) y n

-- the filling of as many rows of the rectangle as the last argument, from row `y`
unfoldable pub rows_puts : Filling → Rect → ℤ → ℕ → List Put
rows_puts f r y zero = []
rows_puts f r y (suc n) = text_puts r r.x y (row_text f r.x y r.width) ++ rows_puts f r (y +ℤ pos 1) n

-- the filling of a rectangle
abbrev pub fill_puts : Filling → Rect → List Put
fill_puts f r = rows_puts f r r.y r.height

module _ {K : Type 0} where
  -- spaces over the visible part of the rectangle
  unfoldable pub blank_picture : Sight → Rect → Picture K
  blank_picture s r = record { puts = fill_puts Blank (intersect_of r (reach s)); boxes = []; areas = r ∷ [] }

-- ---- frames

-- lines of text as bytes
abbrev pub body_texts : List (Bor (List ℕ)) → List (List ℕ)
body_texts lines = map (λ line. line.now) lines

-- texts one below the other from row `y`, clipped to the rectangle
unfoldable pub lines_puts : Rect → ℤ → ℤ → List (List ℕ) → List Put
lines_puts r x y [] = []
lines_puts r x y (t ∷ ts) = text_puts r x y t ++ lines_puts r x (y +ℤ pos 1) ts

-- the place of the title: the top row of a frame without its corners
abbrev pub title_room : Rect → Rect
title_room r = record { x = r.x +ℤ pos 1; y = r.y; width = r.width - 2; height = 1 }

-- the place of the body: a frame without its border
abbrev pub body_room : Rect → Rect
body_room r = record { x = r.x +ℤ pos 1; y = r.y +ℤ pos 1; width = r.width - 2; height = r.height - 2 }

-- the border of a frame with spaces inside, the title, and the lines of the body that have room
unfoldable pub frame_puts : Rect → Rect → List ℕ → List (List ℕ) → List Put
frame_puts m r title body =
    fill_puts (Border r) (intersect_of r m)
    ++ (text_puts (intersect_of (title_room r) m) (r.x +ℤ pos 1) r.y title
    ++ lines_puts (intersect_of (body_room r) m) (r.x +ℤ pos 1) (r.y +ℤ pos 1) (take (r.height - 2) body))

module _ {K : Type 0} where
  -- a frame with title and body; an empty one puts nothing
  unfoldable pub frame_picture : Sight → Rect → List ℕ → List (List ℕ) → Picture K
  frame_picture s r title body = record {
    puts = if is_empty r then [] else frame_puts (reach s) r title body;
    boxes = [];
    areas = r ∷ [];
  }
