-- The owner of a point: the clickable component that was drawn last among those whose box contains it.
use Rattle.std.specs.Prelude.{◌≡◌, ℤ, int_le, int_lt, Bool, true, false, not, ◌&&◌, ◌||◌, cond, List, [], ◌∷◌, Option, Some, None}
use Rattle.scm_cells.specs.Rect.{end_x_of, end_y_of}
use Rattle.scm_cells.specs.declared.rect.Rect.{Rect}
use Rattle.scm_render.specs.Picture.{Box}
use Rattle.scm_render.specs.declared.trace.DrawnRect.{DrawnRect}

-- whether the rectangle contains row `y` and column `x`
unfoldable pub holds : Rect → ℤ → ℤ → Bool
holds r y x = (int_le r.y y && int_lt y (end_y_of r)) && (int_le r.x x && int_lt x (end_x_of r))

-- the first if it is `Some`, else the second
abbrev pub first_of_two : {A : Type 0} → Option A → Option A → Option A
first_of_two (Some i) o = Some i
first_of_two None o = o

-- the second if it is `Some`, else the first
abbrev pub second_or : {A : Type 0} → Option A → Option A → Option A
second_or a (Some x) = Some x
second_or a None = a

-- the test is equality of ids
pub record IsLawful {K : Type 0} (same_id : K → K → Bool) : Type 0 where
  pub same : (i j : K) → same_id i j ≡ true → i ≡ j
  pub self : (i : K) → same_id i i ≡ true

module _ {K : Type 0} (same_id : K → K → Bool) where
  -- whether the list has a box with this id
  unfoldable pub has_id : K → List (Box K) → Bool
  has_id i [] = false
  has_id i (b ∷ bs) = same_id i b.0 || has_id i bs

  -- the last rectangle of an id
  unfoldable pub box_of : K → List (Box K) → Option Rect
  box_of i [] = None
  box_of i (b ∷ bs) = second_or (cond (same_id i b.0) (Some b.1) None) (box_of i bs)

module _ {K : Type 0} (is_clickable : K → Bool) where
  -- the id is clickable, and its box contains the point
  pub record Catches (i : K) (d : DrawnRect) (y x : ℤ) : Type 0 where
    pub click : is_clickable i ≡ true
    pub inside : holds d.rect y x ≡ true

module _ {K : Type 0} (same_id : K → K → Bool) (is_clickable : K → Bool) where
  -- the id of the last clickable box that contains the point, without boxes that a later box of the same id replaces, and without
  -- ids that are `replaced`
  unfoldable pub hit : (K → Bool) → List (Box K) → ℤ → ℤ → Option K
  hit replaced [] y x = None
  hit replaced (b ∷ bs) y x = first_of_two (hit replaced bs y x)
      (cond (is_clickable b.0 && (not (replaced b.0 || has_id same_id b.0 bs) && holds b.1 y x)) (Some b.0) None)

  -- the id of the last clickable box that contains the point
  abbrev pub latest : List (Box K) → ℤ → ℤ → Option K
  latest bs y x = hit (λ i. false) bs y x
