use Rattle.std.proofs.Common.{arith, ◌∙◌}
use Rattle.scm_cells.specs.Rect.{RectInRange}
use Rattle.scm_cells.proofs.RectLemmas.{RectInRange-intersect, points-intersect, rect_between-same, places}
use Rattle.scm_cells.specs.declared.rect.Rect.{Rect}
use Rattle.scm_cells.proofs.rect.Rect.intersect.Goals as goal

pub returns-clause-fields : goal.returns-clause-fields
returns-clause-fields c =
    c.rect_between.ensures ∙ rect_between-same _ _ _ _ _ _ _ _ (omega (arith, places)) (omega (arith, places)) (omega (arith, places)) (omega (arith, places))

pub returns-clause-in_range : goal.returns-clause-in_range
returns-clause-in_range c =
    let P : Rect → Type 0 = RectInRange in
    rw (returns-clause-fields c) (RectInRange-intersect _ _ c.requires.left c.requires.right)

pub returns-clause-points : goal.returns-clause-points
returns-clause-points c = rw (returns-clause-fields c) (points-intersect _ _ c.requires.left c.requires.right)
