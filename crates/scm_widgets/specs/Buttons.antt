-- Buttons: their widths, the row of a dialog's buttons, and what the screen shows of them.
use Rattle.std.specs.Prelude.{ℕ, ℤ, pos, ◌-ℤ◌, List, [], ◌∷◌, cond, Some, None}
use Rattle.std.specs.Int.{int_min}
use Rattle.scm_cells.specs.Row.{put}
use Rattle.scm_cells.specs.Clusters.{text_width}
use Rattle.scm_render.specs.Canvas.{Sight}
use Rattle.scm_render.specs.Drawing.{row_rect}
use Rattle.scm_render.specs.Picture.{Picture, PictureInRange, nothing, followed_by, part}
use Rattle.scm_widgets.specs.declared.button.Button.{Button}
use Rattle.scm_widgets.specs.declared.placed_button.PlacedButton.{PlacedButton}
use Rattle.scm_widgets.specs.Texts.{button_text}
use Rattle.scm_widgets.specs.Pictures.{button_picture}
use Rattle.scm_widgets.specs.Layers.{Strip, clear, over, is_within}

module _ {K : Type 0} where
  -- The width of a button in columns: of its label and its two brackets.
  unfoldable pub button_width : Button K → ℕ
  button_width b = text_width (button_text b)

  -- The button as a part of another component.
  abbrev pub button_part : Button K → Sight → ℤ → ℤ → Picture K
  button_part b s x y = part b.id (button_picture b s x y)

  -- The button in its place: on row `y`, from column `x` on.
  abbrev pub placed_button : ℤ → ℤ → Button K → PlacedButton K
  placed_button x y b = record { rect = row_rect x y (button_width b); button = b }

  -- What buttons draw in their places, one after another.
  unfoldable pub placed_picture : Sight → List (PlacedButton K) → Picture K
  placed_picture s [] = nothing
  placed_picture s (p ∷ ps) = followed_by (button_part p.button s p.rect.x p.rect.y) (placed_picture s ps)

  -- The buttons `ps` are drawn in range, whatever is in sight.
  abbrev pub ArePlacedInRange : List (PlacedButton K) → Type 0
  ArePlacedInRange ps = (s : Sight) → PictureInRange (placed_picture s ps)

  -- Buttons on row `y` from the right, with one column between two. The first one ends before column `end`.
  unfoldable pub placed_from_right : ℤ → ℤ → List (Button K) → List (PlacedButton K)
  placed_from_right end y [] = []
  placed_from_right end y (b ∷ bs) =
      let x = end -ℤ pos (button_width b) in
      placed_button x y b ∷ placed_from_right (x -ℤ pos 1) y bs

  -- ---- on the screen

  -- The button on a screen of `w` columns, from column `c` on. It owns the columns of its text.
  abbrev pub button_strip : ℕ → ℤ → Button K → Strip K
  button_strip w c b = record {
    shows = λ row. put row c (button_text b) 0 w;
    owner = λ x. cond (is_within c (button_width b) x) (Some b.id) None;
  }

  -- Buttons from the right, as in `placed_from_right`.
  unfoldable pub buttons_strip : ℕ → ℤ → List (Button K) → Strip K
  buttons_strip w end [] = clear
  buttons_strip w end (b ∷ bs) =
      let x = end -ℤ pos (button_width b) in
      over (buttons_strip w (x -ℤ pos 1) bs) (button_strip w x b)

  -- The least first column of these buttons, or `l` if that is less. It may lie left of the screen.
  unfoldable pub leftmost : ℤ → ℤ → List (Button K) → ℤ
  leftmost l end [] = l
  leftmost l end (b ∷ bs) =
      let x = end -ℤ pos (button_width b) in
      leftmost (int_min l x) (x -ℤ pos 1) bs
