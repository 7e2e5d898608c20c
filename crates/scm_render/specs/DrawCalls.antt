-- The draw calls of a viewport, each as its picture and its counts.
use Rattle.std.specs.Prelude.{ℕ, ℤ, List}
use Rattle.scm_cells.specs.Counts.{no_counts, one_call}
use Rattle.scm_cells.specs.declared.rect.Rect.{Rect}
use Rattle.scm_render.specs.Picture.{Picture, part}
use Rattle.scm_render.specs.Canvas.{Sight}
use Rattle.scm_render.specs.Drawing.{span_picture, line_picture, text_picture, blank_picture, frame_picture}
use Rattle.scm_render.specs.Draws.{DrawCall}

module _ {K : Type 0} where
  -- a text at column `x` of row `y`
  abbrev pub span_call : ℤ → ℤ → List ℕ → DrawCall K
  span_call x y text = record { picture = λ s. span_picture s x y text; counts = λ s. one_call }

  -- the texts of a line side by side from column `x` of row `y`
  abbrev pub line_call : ℤ → ℤ → List (List ℕ) → DrawCall K
  line_call x y texts = record { picture = λ s. line_picture s x y texts; counts = λ s. one_call }

  -- a line, with an ellipsis in the last visible column if it is longer
  abbrev pub text_call : ℤ → ℤ → List (List ℕ) → DrawCall K
  text_call x y texts = record { picture = λ s. text_picture s x y texts; counts = λ s. one_call }

  -- spaces over a rectangle
  abbrev pub blank_call : Rect → DrawCall K
  blank_call rect = record { picture = λ s. blank_picture s rect; counts = λ s. one_call }

  -- a frame with title and body
  abbrev pub frame_call : Rect → List ℕ → List (List ℕ) → DrawCall K
  frame_call rect title body = record { picture = λ s. frame_picture s rect title body; counts = λ s. one_call }

  -- the call without its counts
  abbrev pub uncounted : DrawCall K → DrawCall K
  uncounted call = record { picture = call.picture; counts = λ s. no_counts }

  -- a component with this id, picture, rows and calls, drawn within another at column `x` of row `y`
  abbrev pub part_call : K → (Sight → ℤ → ℤ → Picture K) → (Sight → ℤ → ℤ → ℕ) → (Sight → ℤ → ℤ → ℕ) → ℤ → ℤ → DrawCall K
  part_call id picture rows calls x y = record {
    picture = λ s. part id (picture s x y);
    counts = λ s. record { rows = rows s x y; calls = calls s x y };
  }
