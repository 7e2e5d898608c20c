-- The target of a click, by the map of boxes.
use Rattle.std.specs.Prelude.{◌≡◌, ◌≤◌, nat_le, ℤ, Bool, ◌&&◌, List, cond, Option, Some, None}
use Rattle.std.specs.HashMap.{HashMap, get, IsFromIterResult}
use Rattle.scm_render.specs.Picture.{Box}
use Rattle.scm_render.specs.Places.{with_times}
use Rattle.scm_render.specs.Hits.{holds, Catches, latest}
use Rattle.scm_render.specs.declared.trace.DrawnRect.{DrawnRect}

module _ {K S : Type 0} (same_id : K → K → Bool) (clicks : K → Bool) where
  -- the box of `i` is the latest of all boxes in the map that catch the point
  pub record IsLatestOf (boxes : HashMap K DrawnRect S) (y x : ℤ) (i : K) : Type 0 where
    pub drawn : DrawnRect
    pub found : get same_id boxes i ≡ Some drawn
    pub catches : Catches clicks i drawn y x
    pub latest_of_all : (j : K) (d : DrawnRect)
        → get same_id boxes j ≡ Some d → Catches clicks j d y x → d.timestamp ≤ drawn.timestamp

  -- the id of the latest box that catches the point, or `None` if no box does
  abbrev pub IsTargetOf : HashMap K DrawnRect S → ℤ → ℤ → Option K → Type 0
  IsTargetOf boxes y x None = (j : K) (d : DrawnRect) → get same_id boxes j ≡ Some d → Catches clicks j d y x → ⊥
  IsTargetOf boxes y x (Some i) = IsLatestOf boxes y x i

  -- if the map was made of a list of boxes, the id of the last clickable box of the list that contains the point
  abbrev pub IsLastDrawn : HashMap K DrawnRect S → ℤ → ℤ → Option K → Type 0
  IsLastDrawn boxes y x o = (bs : List (Box K)) → IsFromIterResult same_id (with_times bs) boxes → o ≡ latest same_id clicks bs y x

-- ---- the search

module _ {K : Type 0} where
  -- the later of the box that was found so far, if any, and the box `e`
  abbrev pub later_of : Option (K × DrawnRect) → K × DrawnRect → Option (K × DrawnRect)
  later_of None e = Some e
  later_of (Some b) e = cond (nat_le b.1.timestamp e.1.timestamp) (Some e) (Some b)

module _ {K : Type 0} (clicks : K → Bool) (y x : ℤ) where
  -- the box that is found after the box `e` is tested
  abbrev pub look : Option (K × DrawnRect) → K × DrawnRect → Option (K × DrawnRect)
  look found e = cond (clicks e.0 && holds e.1.rect y x) (later_of found e) found
