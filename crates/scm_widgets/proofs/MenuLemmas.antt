-- What the menu bar and its open menu draw, and where their box lies.
use Rattle.std.proofs.Common.{◌≡◌, ℕ, ◌<◌, refl, arith}
use Rattle.std.specs.Prelude.{ℤ, ◌≤ℤ◌}
use Rattle.scm_render.specs.Around.{join, no_rect}
use Rattle.scm_render.specs.Drawing.{row_rect}
use Rattle.scm_render.proofs.AroundLemmas.{join-from_empty, is_empty-in}
use Rattle.scm_render.proofs.SpanLemmas.{IsIn, in_more, in_row}

pub not-empty : (c y : ℤ) (n : ℕ) → 0 < n → join no_rect (row_rect c y n) ≡ row_rect c y n
not-empty c y n h = join-from_empty no_rect (row_rect c y n) refl (is_empty-in (row_rect c y n) h (omega arith))

pub in-nothing : (y : ℤ) (n : ℕ) (l : ℤ) → IsIn no_rect y n l
in-nothing y n l = record { top = λ p q. absurd (omega (arith, p)); end = λ p q. absurd (omega (arith, p)); left = λ p q. absurd (omega (arith, p)) }

pub in-row : (c y l : ℤ) (n : ℕ) → l ≤ℤ c → IsIn (join no_rect (row_rect c y n)) y 1 l
in-row c y l n h = in_more no_rect (row_rect c y n) y 1 l (in-nothing y 1 l) (in_row c y n l h)
