-- Pictures: puts of texts, boxes of components, and covered rectangles. Rows and columns are those of the document.
use Rattle.std.specs.Prelude.{ℕ, ℤ, List, [], ◌∷◌, ◌++◌}
use Rattle.scm_cells.specs.declared.rect.Rect.{Rect}
use Rattle.scm_render.specs.Around.{no_rect, around, AllRectsInRange}

-- a text at a row and column, clipped to the columns `low..high`
pub record Put : Type 0 where
  pub row : ℤ
  pub column : ℤ
  pub text : List ℕ
  pub low : ℤ
  pub high : ℤ

-- the id of a component and its bounding box
abbrev pub Box : Type 0 → Type 0
Box K = K × Rect

-- the puts in order, the boxes in the order in which their components begin, and the rectangles that are drawn or covered;
-- the timestamp of a box is its index in the list
pub record Picture (K : Type 0) : Type 0 where
  pub puts : List Put
  pub boxes : List (Box K)
  pub areas : List Rect

module _ {K : Type 0} where
  -- the empty picture
  unfoldable pub nothing : Picture K
  nothing = record { puts = []; boxes = []; areas = [] }

  -- the picture `a` and then the picture `b`
  unfoldable pub followed_by : Picture K → Picture K → Picture K
  followed_by a b = record { puts = a.puts ++ b.puts; boxes = a.boxes ++ b.boxes; areas = a.areas ++ b.areas }

  -- a covered rectangle without puts
  unfoldable pub covering : Rect → Picture K
  covering r = record { puts = []; boxes = []; areas = r ∷ [] }

  -- the bounding box of a component with this picture: the least rectangle around all that it and its parts draw or cover
  unfoldable pub box_rect : Picture K → Rect
  box_rect m = around no_rect m.areas

  -- the picture of a component within another: its own box comes before the boxes of its parts
  unfoldable pub part : K → Picture K → Picture K
  part id m = record { puts = m.puts; boxes = (id, box_rect m) ∷ m.boxes; areas = m.areas }

  -- each rectangle of the picture is in range
  pub record PictureInRange (m : Picture K) : Type 0 where
    pub areas : AllRectsInRange m.areas
