-- The boxes that a viewport keeps, as a list.
use Rattle.std.specs.Prelude.{List, Option, Vec, option_map}
use Rattle.scm_render.specs.Picture.{Box}

-- the boxes as a list, if boxes are kept
abbrev pub kept_items : {K A : Type 0} → Option (Vec (Box K) A) → Option (List (Box K))
kept_items boxes = option_map (λ v. v.items) boxes
