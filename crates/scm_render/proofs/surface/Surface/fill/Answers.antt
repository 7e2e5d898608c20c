use Rattle.std.proofs.Common.{arith, ◌∙◌, refl, FitsSigned, w64}
use Rattle.std.proofs.lemmas.Int.{to_z-of_z}
use Rattle.scm_cells.proofs.RectLemmas.{places}
use Rattle.scm_render.proofs.DrawLemmas.{fill-step, fill-end}
use Rattle.scm_render.proofs.surface.Surface.fill.Goals as goal

pub loop-offset-preserved : goal.loop-offset-preserved
loop-offset-preserved c =
    let fx : FitsSigned w64 c.args.rect.x = omega (arith, places) in
    let fr : FitsSigned w64 c.args.rect.y = omega (arith, places) in
    let at = simp to_z-of_z at c.strict_add_unsigned-y.ensures in
    let fy : FitsSigned w64 c.strict_add_unsigned-y.result = omega (arith, places) in
    let drawn = simp to_z-of_z at c.in_ok-fill_row.ensures.ok in
    record {
      rect = c.in_ok-fill_row.ensures.rect ∙ c.loop-offset.invariant.rect;
      left = fill-step c.args.rect c.args.filling c.loop-offset.offset c.strict_add_unsigned-y.result _ _ _ _ (omega arith) at refl drawn c.loop-offset.invariant.left;
    }

pub returns-clause-ok : goal.returns-clause-ok
returns-clause-ok c = fill-end c.args.rect c.args.filling c.loop-offset.offset _ _ (omega arith) c.loop-offset.invariant.left
