-- What a put at the place of a row makes of the screen.
use Rattle.std.proofs.Common.{◌≡◌, ℕ, List, length, refl, sym, ap, ◌∙◌, arith, Option, Some, None, inl, inr}
use Rattle.std.specs.Prelude.{ℤ, ◌-ℤ◌, IfSome}
use Rattle.scm_cells.proofs.RectLemmas.{places}
use Rattle.scm_cells.specs.declared.rect.Rect.{Rect}
use Rattle.scm_render.specs.Canvas.{SurfaceState, with_puts}
use Rattle.scm_render.specs.Drawing.{text_puts}
use Rattle.scm_render.specs.RowPlaces.{FitsIn, IsPlace, IsPlaceOf, put_on}
use Rattle.scm_render.specs.declared.surface.Place.{Place}
use Rattle.scm_render.proofs.DrawLemmas.{put-whole, text_puts-shown, text-hidden, text-off}

pub fits_in : (p : Place) (v m : Rect) (y : ℤ) → IsPlace p v m y → FitsIn p v
fits_in p v m y h = record { row = omega (arith, places, h.top, h.bottom, h.row); high = omega (arith, h.high) }

pub fits_place : (o : Option Place) (v m : Rect) (y : ℤ) → IsPlaceOf o v m y → IfSome o (λ p. FitsIn p v)
fits_place (Some p) v m y h = fits_in p v m y h
fits_place None v m y h = tt

pub placed : (p : Place) (s : SurfaceState) (m : Rect) (x y : ℤ) (t : List ℕ) → length s.rows ≡ s.rect.height → IsPlace p s.rect m y → put_on p (x -ℤ s.rect.x) t s ≡ with_puts (text_puts m x y t) s
placed p s m x y t n h =
    let fits = fits_in p s.rect m y h in
    put-whole s.rect m s.rows x y t p.row (x -ℤ s.rect.x) p.low p.high h.top h.row (omega (arith, fits.row, n)) refl h.low h.high
    ∙ ap (λ ps. with_puts ps s) (sym (text_puts-shown m x y t h.shown))

pub not_placed : (s : SurfaceState) (m : Rect) (x y : ℤ) (t : List ℕ) → length s.rows ≡ s.rect.height → IsPlaceOf None s.rect m y → s ≡ with_puts (text_puts m x y t) s
not_placed s m x y t n (inl hidden) = text-hidden s m x y t hidden
not_placed s m x y t n (inr off) = text-off s m x y t n off
