-- Overlay rectangles have the owners that the layers over the rows of files name.
use Rattle.std.proofs.Common.{◌≡◌, ℕ, ◌-◌, ◌<◌, Bool, true, false, ◌&&◌, cond, nat_lt, List, [], ◌∷◌, ◌++◌, refl, sym, ap, ◌∙◌, arith}
use Rattle.std.specs.Prelude.{ℤ, pos, ◌-ℤ◌, nat_le, if◌then◌else◌, Option, Some, None}
use Rattle.std.specs.Ordering.{int_eq}
use Rattle.std.proofs.lemmas.Bool.Decides.{nat_tests}
use Rattle.std.proofs.lemmas.Int.{ints}
use Rattle.scm_cells.specs.Rect.{or_zero}
use Rattle.scm_cells.proofs.RectLemmas.{places}
use Rattle.scm_render.specs.Drawing.{row_rect}
use Rattle.scm_render.specs.Hits.{first_of_two}
use Rattle.scm_render.specs.Lines.{line}
use Rattle.scm_render.proofs.HitLemmas.{two_none, two_assoc}
use Rattle.scm_widgets.specs.declared.ids.ComponentId.{ComponentId}
use Rattle.scm_widgets.specs.Layers.{Strip, clear, is_among, is_within}
use Rattle.scm_widgets.specs.declared.overlay_rects.OverlayRect.{OverlayRect}
use Rattle.scm_widgets.specs.OverlayRects.{is_at, overlay_owner}
use Rattle.scm_widgets.proofs.ButtonLemmas.{row_test}

-- a place among others, by differences that are not negative
pub within-is : (first : ℤ) (size place : ℕ)
    → (nat_le (or_zero (first -ℤ pos 0)) place && nat_lt (place - or_zero (first -ℤ pos 0)) (size - or_zero (pos 0 -ℤ first))) ≡ is_within first size place
within-is first size place = go (is_within first size place) refl
  where
    go : (t : Bool) → is_within first size place ≡ t
        → (nat_le (or_zero (first -ℤ pos 0)) place && nat_lt (place - or_zero (first -ℤ pos 0)) (size - or_zero (pos 0 -ℤ first))) ≡ t
    go true e = grind (arith, places, nat_tests, e)
    go false e = grind (arith, places, nat_tests, e)

pub within-among : (c n x : ℕ) → is_within (pos c) n x ≡ is_among c n x
within-among c n x = go (is_among c n x) refl
  where
    go : (t : Bool) → is_among c n x ≡ t → is_within (pos c) n x ≡ t
    go true e = grind (arith, ints, nat_tests, e)
    go false e = grind (arith, ints, nat_tests, e)

pub within-all : (w x : ℕ) → x < w → is_within (pos 0) w x ≡ true
within-all w x h = grind (arith, ints, nat_tests, h)

-- a rectangle on one row
pub on_row : (y : ℤ) (z : ℕ) → is_within y 1 z ≡ int_eq (pos z) y
on_row y z = row_test y (pos z)

pub row-cell : (i : ComponentId) (c y : ℤ) (n z x : ℕ) → ◌≡◌ {A = Option ComponentId}
    (if is_at (record { id = i; rect = row_rect c y n }) z x then Some i else None)
    (if int_eq (pos z) y then cond (is_within c n x) (Some i) None else None)
row-cell i c y n z x = rw (on_row y z) (go (int_eq (pos z) y) (is_within c n x))
  where
    go : (t u : Bool) → ◌≡◌ {A = Option ComponentId} (if t && u then Some i else None) (if t then cond u (Some i) None else None)
    go true u = refl
    go false u = refl

pub line-one : (s : Strip ComponentId) (y z : ℤ) (x : ℕ) → (line clear (s ∷ []) y z).owner x ≡ (if int_eq z y then s.owner x else None)
unfolding line
line-one s y z x = go (int_eq z y)
  where
    go : (t : Bool) → (cond t s clear).owner x ≡ (if t then s.owner x else None)
    go true = refl
    go false = refl

-- rectangles over others
pub spots-append : (ss ts : List OverlayRect) (y x : ℕ) → overlay_owner (ss ++ ts) y x ≡ first_of_two (overlay_owner ts y x) (overlay_owner ss y x)
spots-append [] ts y x = sym (two_none (overlay_owner ts y x))
spots-append (s ∷ ss) ts y x =
    ap (λ o. first_of_two o (if is_at s y x then Some s.id else None)) (spots-append ss ts y x)
    ∙ two_assoc (overlay_owner ts y x) (overlay_owner ss y x) (if is_at s y x then Some s.id else None)
