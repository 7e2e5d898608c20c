-- That a mask is in range is a fact with one proof, so a type may carry it.
use Rattle.std.specs.Prelude.{ℕ, ℤ, Option, Some, None}
use Rattle.std.proofs.Props.{props}
use Rattle.scm_cells.specs.declared.mask.Mask.{Mask}
use Rattle.scm_cells.specs.Mask.{SideInRange, MaskInRange}

SideInRange-prop : (z : ℤ) (side : Option ℕ) → IsProp (SideInRange z side)
SideInRange-prop z (Some n) = hlevel props
SideInRange-prop z None = hlevel props

pub MaskInRange-prop : (m : Mask) → IsProp (MaskInRange m)
MaskInRange-prop m = hlevel (SideInRange-prop, props)
