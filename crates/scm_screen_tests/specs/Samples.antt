-- What the sample components draw.
use Rattle.std.specs.Prelude.{ℕ, ℤ, pos, ◌+ℤ◌, List, [], ◌∷◌}
use Rattle.scm_render.specs.Picture.{Picture, nothing, followed_by, part}
use Rattle.scm_render.specs.Canvas.{Sight, under}
use Rattle.scm_render.specs.Drawing.{text_picture}
use Rattle.scm_screen_tests.specs.declared.samples.Caption.{Caption}
use Rattle.scm_screen_tests.specs.declared.samples.Pair.{Pair}
use Rattle.scm_screen_tests.specs.declared.samples.Pane.{Pane}
use Rattle.scm_screen_tests.specs.declared.samples.Nest.{Nest}

unfoldable pub caption_picture : Caption → Sight → ℤ → ℤ → Picture ℕ
caption_picture c s x y = text_picture s x y (c.text.now ∷ [])

-- the second text on the row below the first
unfoldable pub pair_picture : Pair → Sight → ℤ → ℤ → Picture ℕ
pair_picture c s x y =
    followed_by (part c.first.id (caption_picture c.first s x y)) (part c.second.id (caption_picture c.second s x (y +ℤ pos 1)))

-- the text under the pane's mask
unfoldable pub pane_picture : Pane → Sight → ℤ → ℤ → Picture ℕ
pane_picture c s x y = part c.caption.id (caption_picture c.caption (under c.mask s) x y)

-- the pane and the text below it under the nest's mask
unfoldable pub nest_picture : Nest → Sight → ℤ → ℤ → Picture ℕ
nest_picture c s x y =
    followed_by (part c.pane.id (pane_picture c.pane (under c.mask s) x y)) (part c.below.id (caption_picture c.below (under c.mask s) x (y +ℤ pos 1)))

-- texts, each on the row below the one before
unfoldable pub column_picture : List Caption → Sight → ℤ → ℤ → Picture ℕ
column_picture [] s x y = nothing
column_picture (c ∷ cs) s x y = followed_by (part c.id (caption_picture c s x y)) (column_picture cs s x (y +ℤ pos 1))
