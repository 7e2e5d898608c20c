-- A label between brackets.
use Rattle.std.specs.Prelude.{ℕ, ℤ, Bool, List, [], ◌∷◌, ◌++◌, if◌then◌else◌}
use Rattle.scm_render.specs.Picture.{Picture}
use Rattle.scm_render.specs.Canvas.{Sight}
use Rattle.scm_render.specs.Drawing.{span_picture}

-- the label between brackets, which are round where it has the focus
abbrev pub boxed_text : Bool → List ℕ → List ℕ
boxed_text focused label = (if focused then 40 else 91) ∷ (label ++ ((if focused then 41 else 93) ∷ []))

unfoldable pub tag_picture : {K : Type 0} → Bool → List ℕ → Sight → ℤ → ℤ → Picture K
tag_picture focused label s x y = span_picture s x y (boxed_text focused label)
