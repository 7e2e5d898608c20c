-- What a dialog draws, and where its box lies.
use Rattle.std.proofs.Common.{◌≡◌, ◌<◌, false, arith}
use Rattle.std.proofs.lemmas.Bool.Decides.{nat_tests}
use Rattle.scm_cells.specs.Rect.{is_empty}
use Rattle.scm_cells.specs.declared.rect.Rect.{Rect}

pub sizes : (r : Rect) → is_empty r ≡ false → (0 < r.width) × (0 < r.height)
sizes r e = (grind (arith, nat_tests), grind (arith, nat_tests))
