-- Which of the boxes of a map catches a point: the latest by time.
use Rattle.std.specs.Prelude.{◌≡◌, ℕ, suc, ◌≤◌, ℤ, Bool, cond, List, [], ◌∷◌, Option, Some, None}
use Rattle.scm_render.specs.Picture.{Box}
use Rattle.scm_render.specs.Hits.{second_or, Catches}
use Rattle.scm_render.specs.declared.trace.DrawnRect.{DrawnRect}

module _ {K : Type 0} (same_id : K → K → Bool) where
  -- that rectangle and its time, where the first box of the list has this time
  unfoldable pub drawn_of : ℕ → K → List (Box K) → Option DrawnRect
  drawn_of t i [] = None
  drawn_of t i (b ∷ bs) = second_or (cond (same_id i b.0) (Some (record { rect = b.1; timestamp = t })) None) (drawn_of (suc t) i bs)

module _ {K : Type 0} (same_id : K → K → Bool) (is_clickable : K → Bool) where
  -- the latest by time of all boxes in the map that catch the point
  pub record IsLatest (bs : List (Box K)) (y x : ℤ) (i : K) : Type 0 where
    pub drawn : DrawnRect
    pub found : drawn_of same_id 0 i bs ≡ Some drawn
    pub catches : Catches is_clickable i drawn y x
    pub latest_of_all : (j : K) (d : DrawnRect) → drawn_of same_id 0 j bs ≡ Some d → Catches is_clickable j d y x → d.timestamp ≤ drawn.timestamp
