use Rattle.std.proofs.Common.{arith, ◌∙◌, sym}
use Rattle.scm_cells.proofs.RectLemmas.{RectInRange-union, IsLeastAround-from_eq, rect_between-same, places}
use Rattle.scm_cells.proofs.rect.Rect.union_bounding.Goals as goal

pub returns-else-is_empty-2-clause-fields : goal.returns-else-is_empty-2-clause-fields
returns-else-is_empty-2-clause-fields c =
    rw (sym c.if-is_empty.ensures, sym c.if-is_empty-2.ensures)
    (c.rect_between.ensures ∙ rect_between-same _ _ _ _ _ _ _ _ (omega (arith, places)) (omega (arith, places)) (omega (arith, places)) (omega (arith, places)))

pub returns-else-is_empty-2-clause-in_range : goal.returns-else-is_empty-2-clause-in_range
returns-else-is_empty-2-clause-in_range c =
    rw (returns-else-is_empty-2-clause-fields c) (RectInRange-union _ _ c.requires.left c.requires.right)

pub returns-else-is_empty-2-clause-around : goal.returns-else-is_empty-2-clause-around
returns-else-is_empty-2-clause-around c = λ e f. IsLeastAround-from_eq _ _ _ e f (returns-else-is_empty-2-clause-fields c)
