use Rattle.std.proofs.Common.{refl, FitsSigned, w64}
use Rattle.std.specs.Prelude.{pos, ◌+ℤ◌}
use Rattle.std.proofs.lemmas.Int.{to_z-of_z}
use Rattle.scm_cells.specs.Rect.{RectInRange, end_x_of}
use Rattle.scm_render.proofs.StepLemmas.{InRange-fits}
use Rattle.scm_document.specs.ViewColumns.{nearest_column}
use Rattle.scm_view.proofs.AppLemmas.{held-in, mask-in}
use Rattle.scm_view.proofs.app_view.view_mask.Goals as goal

pub returns-clause-mask : goal.returns-clause-mask
returns-clause-mask c =
    let s = c.args.viewport.now.canvas.sight in
    let r : RectInRange s.rect = rw c.rect-rect.ensures.value at c.rect-rect.ensures.in_range in
    let fl : FitsSigned w64 (nearest_column s.rect c.args.x) = InRange-fits _ (held-in s.rect c.args.x r) in
    let fe : FitsSigned w64 (end_x_of s.rect) = InRange-fits _ r.end_x in
    let fy : FitsSigned w64 s.rect.y = InRange-fits _ r.y in
    let fb : FitsSigned w64 (s.rect.y +ℤ pos 1) = InRange-fits _ c.requires in
    let left = simp (to_z-of_z, c.rect-rect.ensures.value) at c.nearest_column-left.ensures in
    rw (c.min.ensures, c.saturating_sub.ensures, c.gap-room.ensures, c.gap-hidden.ensures, c.end_x.ensures, left, c.rect-rect.ensures.value) (simp (to_z-of_z, c.ranges.x, fl, fe, fy, fb) refl)

pub returns-clause-in_range : goal.returns-clause-in_range
returns-clause-in_range c =
    let s = c.args.viewport.now.canvas.sight in
    let r : RectInRange s.rect = rw c.rect-rect.ensures.value at c.rect-rect.ensures.in_range in
    let fl : FitsSigned w64 (nearest_column s.rect c.args.x) = InRange-fits _ (held-in s.rect c.args.x r) in
    let fe : FitsSigned w64 (end_x_of s.rect) = InRange-fits _ r.end_x in
    let fy : FitsSigned w64 s.rect.y = InRange-fits _ r.y in
    let fb : FitsSigned w64 (s.rect.y +ℤ pos 1) = InRange-fits _ c.requires in
    let left = simp (to_z-of_z, c.rect-rect.ensures.value) at c.nearest_column-left.ensures in
    rw (c.min.ensures, c.saturating_sub.ensures, c.gap-room.ensures, c.gap-hidden.ensures, c.end_x.ensures, left, c.rect-rect.ensures.value) (simp (to_z-of_z, c.ranges.x, fl, fe, fy, fb) (mask-in s c.args.x c.args.width r c.requires))
