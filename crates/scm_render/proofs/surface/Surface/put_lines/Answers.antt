use Rattle.std.proofs.Common.{arith, ◌∙◌, FitsSigned, w64}
use Rattle.std.specs.Prelude.{pos, ◌+ℤ◌}
use Rattle.std.proofs.lemmas.Int.{to_z-of_z}
use Rattle.scm_cells.proofs.RectLemmas.{places}
use Rattle.scm_render.proofs.DrawLemmas.{lines-step, lines-end}
use Rattle.scm_render.proofs.surface.Surface.put_lines.Goals as goal

pub loop-offset-preserved : goal.loop-offset-preserved
loop-offset-preserved c =
    let fx : FitsSigned w64 c.args.x = c.ranges.x in
    let fy : FitsSigned w64 c.args.y = c.ranges.y in
    let at = simp to_z-of_z at c.strict_add_unsigned.ensures in
    let fr : FitsSigned w64 (c.args.y +ℤ pos c.loop-offset.offset) = omega (arith, places) in
    let drawn = simp to_z-of_z at (rw at at c.in_ok-put_text.ensures.ok) in
    let so_far = simp to_z-of_z at c.loop-offset.invariant.left in
    record {
      rect = c.in_ok-put_text.ensures.rect ∙ c.loop-offset.invariant.rect;
      left = simp to_z-of_z (lines-step c.args.within c.args.x c.args.y c.args.lines.now c.loop-offset.offset _ _ _ _ (omega arith) drawn so_far);
    }

pub returns-clause-ok : goal.returns-clause-ok
returns-clause-ok c =
    let fx : FitsSigned w64 c.args.x = c.ranges.x in
    let fy : FitsSigned w64 c.args.y = c.ranges.y in
    let so_far = simp to_z-of_z at c.loop-offset.invariant.left in
    lines-end c.args.within c.args.x _ c.args.lines.now c.loop-offset.offset _ _ (omega arith) so_far
