-- The least rectangle around several, where empty ones are ignored.
use Rattle.std.specs.Prelude.{pos, List, [], ◌∷◌, fold, if◌then◌else◌}
use Rattle.scm_cells.specs.Rect.{RectInRange, union_of, is_empty}
use Rattle.scm_cells.specs.declared.rect.Rect.{Rect}

-- the rectangle of zeros
abbrev pub no_rect : Rect
no_rect = record { x = pos 0; y = pos 0; width = 0; height = 0 }

-- the least rectangle around `a` and `b`, or `a` if `b` is empty
unfoldable pub join : Rect → Rect → Rect
join a b = if is_empty b then a else union_of a b

-- the least rectangle around `r` and all of `rs`, where an empty one of `rs` is ignored
unfoldable pub around : Rect → List Rect → Rect
around r rs = fold join r rs

-- each of the rectangles is in range
abbrev pub AllRectsInRange : List Rect → Type 0
AllRectsInRange [] = Unit {0}
AllRectsInRange (r ∷ rs) = RectInRange r × AllRectsInRange rs
