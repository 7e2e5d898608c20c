-- Dialogs: a frame in the middle of the screen, with a title, a body, and buttons on its last row.
use Rattle.std.specs.Prelude.{ℕ, ◌+◌, ◌-◌, max, pos, ◌-ℤ◌, Bool, List, [], ◌∷◌, ◌++◌, map, length, replicate, take, encode_utf8, int_le, int_lt, ◌&&◌, None}
use Rattle.std.specs.List.{concat}
use Rattle.scm_cells.specs.Row.{put}
use Rattle.scm_cells.specs.Clusters.{text_width}
use Rattle.scm_cells.specs.Rect.{end_x_of, end_y_of}
use Rattle.scm_cells.specs.declared.rect.Rect.{Rect}
use Rattle.scm_cells.specs.declared.rect.RectSize.{RectSize}
use Rattle.scm_render.specs.Canvas.{Sight}
use Rattle.scm_render.specs.Centring.{centred_rect, centred_gap, centred_size}
use Rattle.scm_render.specs.Picture.{Picture, followed_by}
use Rattle.scm_render.specs.Drawing.{frame_picture, body_texts}
use Rattle.scm_overlay.specs.declared.dialog.Dialog.{Dialog}
use Rattle.scm_widgets.specs.Layers.{Strip, Layer, laid_over, owned}
use Rattle.scm_widgets.specs.declared.placed_button.PlacedButton.{PlacedButton}
use Rattle.scm_widgets.specs.Buttons.{buttons_strip, leftmost, placed_from_right, placed_picture}
use Rattle.scm_widgets.specs.ShownDialogs.{ShownDialog}

-- The width of the widest line, in columns.
unfoldable pub widest_line : List (List ℕ) → ℕ
widest_line [] = 0
widest_line (t ∷ ts) = max (text_width t) (widest_line ts)

-- The size of the body with a border around it.
abbrev pub least_size : List (List ℕ) → RectSize
least_size body = record { width = widest_line body + 2; height = length body + 2 }

-- A border row of a frame of `n` columns: the symbol `first`, then `between` repeated, then `last`.
abbrev pub edge : ℕ → ℕ → ℕ → ℕ → List ℕ
edge first between last n = encode_utf8 first ++ (concat (replicate (n - 2) (encode_utf8 between)) ++ encode_utf8 last)

module _ {K : Type 0} where
  -- The content of a dialog component.
  abbrev pub shown_dialog : Dialog K → ShownDialog K
  shown_dialog d = record { id = d.id; title = d.title; body = body_texts d.body.now; buttons = d.buttons.now }

  -- ---- what they draw

  -- The rectangle of a dialog, in the middle of the part `screen` of the document.
  abbrev pub dialog_rect : ShownDialog K → Rect → Rect
  dialog_rect d screen = centred_rect screen (least_size d.body) 60 20

  -- The buttons of a dialog in the rectangle `r`: on its last row, before its last column.
  abbrev pub dialog_buttons : ShownDialog K → Rect → List (PlacedButton K)
  dialog_buttons d r = placed_from_right (end_x_of r -ℤ pos 1) (end_y_of r -ℤ pos 1) d.buttons

  -- The frame, and the buttons.
  unfoldable pub dialog_picture : ShownDialog K → Sight → Picture K
  dialog_picture d s =
      let r = dialog_rect d s.rect in
      followed_by (frame_picture s r d.title d.body) (placed_picture s (dialog_buttons d r))

  -- ---- what the screen shows of them, and who owns it

  -- A text on a row from column `c` on, clipped to columns `low..high`.
  abbrev pub put_strip : ℕ → List ℕ → ℕ → ℕ → Strip K
  put_strip c t low high = record { shows = λ row. put row (pos c) t low high; owner = λ x. None }

  -- The border of a frame of `n` columns and `m` rows, from column `c` on.
  abbrev pub border_strips : ℕ → ℕ → ℕ → List (Strip K)
  border_strips c n m =
      put_strip c (edge 0x250C 0x2500 0x2510 n) c (c + n)
      ∷ (replicate (m - 2) (put_strip c (edge 0x2502 0x20 0x2502 n) c (c + n))
      ++ put_strip c (edge 0x2514 0x2500 0x2518 n) c (c + n) ∷ [])

  -- The border, and over it the title on the first row, the visible lines of the body, and the buttons on the last row.
  abbrev pub frame_strips : ℕ → ShownDialog K → ℕ → ℕ → ℕ → List (Strip K)
  frame_strips w d c n m =
      laid_over (m - 1) (buttons_strip w (pos (c + n) -ℤ pos 1) d.buttons ∷ [])
      (laid_over 1 (map (λ t. put_strip (c + 1) t (c + 1) (c + n - 1)) (take (m - 2) d.body))
      (laid_over 0 (put_strip (c + 1) d.title (c + 1) (c + n - 1) ∷ []) (border_strips c n m)))

  -- Whether the dialog owns column `x` where no button does: from its first column, or that of its leftmost button, to its end.
  abbrev pub is_dialog_column : ShownDialog K → ℕ → ℕ → ℕ → Bool
  is_dialog_column d c n x =
      int_le (leftmost (pos c) (pos (c + n) -ℤ pos 1) d.buttons) (pos x) && int_lt (pos x) (pos (c + n))

  -- The frame with its owners: the buttons, and the dialog elsewhere.
  abbrev pub dialog_strips : ℕ → ShownDialog K → ℕ → ℕ → ℕ → List (Strip K)
  dialog_strips w d c n m = map (owned d.id (is_dialog_column d c n)) (frame_strips w d c n m)

  -- The dialog in the middle of a screen of `w` columns and `h` rows whose first row shows row `s` of the document.
  abbrev pub dialog_layer : ℕ → ℕ → ℕ → ShownDialog K → Layer K
  dialog_layer w h s d = record {
    first = s + centred_gap h (length d.body + 2) 20;
    strips = dialog_strips w d
        (centred_gap w (widest_line d.body + 2) 60)
        (centred_size w (widest_line d.body + 2) 60)
        (centred_size h (length d.body + 2) 20);
  }
