-- Draw calls on one row, and of a component under a mask.
use Rattle.std.specs.Prelude.{ℕ, ℤ, List, length}
use Rattle.scm_cells.specs.Counts.{one_call}
use Rattle.scm_cells.specs.declared.mask.Mask.{Mask}
use Rattle.scm_render.specs.Canvas.{Sight, under}
use Rattle.scm_render.specs.Draws.{DrawCall}
use Rattle.scm_render.specs.Drawing.{row_rect, span_picture, text_picture, blank_picture}
use Rattle.scm_widgets.specs.declared.button.Button.{Button}
use Rattle.scm_widgets.specs.declared.ids.ComponentId.{ComponentId}
use Rattle.scm_widgets.specs.declared.placed_button.PlacedButton.{PlacedButton}
use Rattle.scm_widgets.specs.Buttons.{button_part, placed_picture}
use Rattle.scm_widgets.specs.Counts.{drawn, on_row}
use Rattle.scm_widgets.specs.Pictures.{IdPicture, blank_rest, box_part}
use Rattle.scm_widgets.specs.Boxes.{IdBox}

-- A call for row `y`: it counts one call if the screen shows the row.
abbrev pub call_on_row : ℤ → (Sight → IdPicture) → DrawCall ComponentId
call_on_row y picture = record { picture = picture; counts = λ sight. on_row sight.rect y one_call }

-- One text at column `x`.
abbrev pub span_call : ℤ → ℤ → List ℕ → DrawCall ComponentId
span_call x y text = call_on_row y (λ sight. span_picture sight x y text)

-- Texts after one another from column `x` on, with an ellipsis where the mask ends.
abbrev pub text_call : ℤ → ℤ → List (List ℕ) → DrawCall ComponentId
text_call x y texts = call_on_row y (λ sight. text_picture sight x y texts)

-- Spaces in columns `x..x + width`.
abbrev pub blank_call : ℤ → ℤ → ℕ → DrawCall ComponentId
blank_call x y width = call_on_row y (λ sight. blank_picture sight (row_rect x y width))

-- Spaces from column `x` to the end of the mask.
abbrev pub blank_rest_call : ℤ → ℤ → DrawCall ComponentId
blank_rest_call x y = call_on_row y (λ sight. blank_rest sight x y)

-- A checkbox or expand box at column `x`.
abbrev pub box_call : IdBox → ℤ → ℤ → DrawCall ComponentId
box_call b x y = call_on_row y (λ sight. box_part b sight x y)

-- A button at column `x`.
abbrev pub button_call : Button ComponentId → ℤ → ℤ → DrawCall ComponentId
button_call b x y = call_on_row y (λ sight. button_part b sight x y)

module _ {K : Type 0} where
  -- Buttons in their places.
  abbrev pub placed_call : List (PlacedButton K) → DrawCall K
  placed_call buttons = record {
    picture = λ sight. placed_picture sight buttons;
    counts = λ sight. drawn 0 (length buttons);
  }

  -- The call, made while `mask` is set.
  abbrev pub masked_call : Mask → DrawCall K → DrawCall K
  masked_call mask call = record {
    picture = λ sight. call.picture (under mask sight);
    counts = λ sight. call.counts (under mask sight);
  }
