-- Pictures of checkboxes and buttons, and of the columns up to the end of the mask.
use Rattle.std.specs.Prelude.{ℕ, ℤ, pos, ◌-ℤ◌, Bool, if◌then◌else◌}
use Rattle.scm_cells.specs.Rect.{or_zero, end_x_of}
use Rattle.scm_cells.specs.declared.rect.Rect.{Rect}
use Rattle.scm_render.specs.Picture.{Picture, nothing, covering, part}
use Rattle.scm_render.specs.Canvas.{Sight}
use Rattle.scm_render.specs.Drawing.{reach, row_rect, span_picture, blank_picture}
use Rattle.scm_widgets.specs.declared.ids.ComponentId.{ComponentId}
use Rattle.scm_widgets.specs.declared.tristate_box.TristateBox.{TristateBox}
use Rattle.scm_widgets.specs.declared.button.Button.{Button}
use Rattle.scm_widgets.specs.Texts.{box_text, button_text}
use Rattle.scm_widgets.specs.Boxes.{IdBox}

-- a picture with component ids
abbrev pub IdPicture : Type 0
IdPicture = Picture ComponentId

-- ---- columns of a row

-- how many columns the mask shows from column x on
abbrev pub to_end : Sight → ℤ → ℕ
to_end s x = or_zero (end_x_of (reach s) -ℤ x)

-- the columns of row y from column x to the end of the mask
abbrev pub rest_of_row : Sight → ℤ → ℤ → Rect
rest_of_row s x y = row_rect x y (to_end s x)

-- these columns, blanked
abbrev pub blank_rest : Sight → ℤ → ℤ → IdPicture
blank_rest s x y = blank_picture s (rest_of_row s x y)

-- all columns of row y that the mask shows
abbrev pub whole_row : Sight → ℤ → Rect
whole_row s y = row_rect (reach s).x y (reach s).width

-- ---- boxes and buttons

-- box b at column x of row y
unfoldable pub box_picture : {K : Type 0} → TristateBox K → Sight → ℤ → ℤ → Picture K
box_picture b s x y = span_picture s x y (box_text b)

-- button b at column x of row y
unfoldable pub button_picture : {K : Type 0} → Button K → Sight → ℤ → ℤ → Picture K
button_picture b s x y = span_picture s x y (button_text b)

-- box b as a component of its own
abbrev pub box_part : IdBox → Sight → ℤ → ℤ → IdPicture
box_part b s x y = part b.id (box_picture b s x y)

-- ---- headings

-- the column of a fold box: three columns before the end of the mask
abbrev pub fold_column : Sight → ℤ
fold_column s = end_x_of (reach s) -ℤ pos 3

-- ---- rows of the document

-- the cover of all columns of a selected section's first row
abbrev pub highlight : Bool → Sight → ℤ → IdPicture
highlight selected s y = if selected then covering (whole_row s y) else nothing
