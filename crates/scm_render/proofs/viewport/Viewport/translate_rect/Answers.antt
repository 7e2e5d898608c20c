use Rattle.std.proofs.Common.{sym, arith, FitsSigned, w64}
use Rattle.std.proofs.lemmas.Int.{to_z-of_z}
use Rattle.scm_cells.proofs.RectLemmas.{places}
use Rattle.scm_render.proofs.PlaceLemmas.{IsSmall-part, translated-some, translated-none}
use Rattle.scm_render.proofs.viewport.Viewport.translate_rect.Goals as goal

pub overflow_cast-result : goal.overflow_cast-result
overflow_cast-result g c =
    let fx : FitsSigned w64 c.rect-screen.result.x = omega (arith, places, c.rect-screen.ensures.in_range) in
    let fp : FitsSigned w64 c.intersect-part.result.x = omega (arith, places, c.intersect-part.ensures.in_range) in
    let small = IsSmall-part c.rect-screen.result c.args.rect c.intersect-part.result c.rect-screen.ensures.narrow c.rect-screen.ensures.low c.intersect-part.ensures.fields c.if-is_empty.ensures in
    let gap = simp to_z-of_z at c.abs_diff.ensures in
    omega (arith, places, gap, small.left, small.x)

pub overflow_cast-result-else-is_empty : goal.overflow_cast-result-else-is_empty
overflow_cast-result-else-is_empty g c =
    let fy : FitsSigned w64 c.rect-screen.result.y = omega (arith, places, c.rect-screen.ensures.in_range) in
    let fp : FitsSigned w64 c.intersect-part.result.y = omega (arith, places, c.intersect-part.ensures.in_range) in
    let small = IsSmall-part c.rect-screen.result c.args.rect c.intersect-part.result c.rect-screen.ensures.narrow c.rect-screen.ensures.low c.intersect-part.ensures.fields c.if-is_empty.ensures in
    let gap = simp to_z-of_z at c.abs_diff-else-is_empty.ensures in
    omega (arith, places, gap, small.top, small.y)

pub overflow_cast-result-else-is_empty-2 : goal.overflow_cast-result-else-is_empty-2
overflow_cast-result-else-is_empty-2 g c =
    let small = IsSmall-part c.rect-screen.result c.args.rect c.intersect-part.result c.rect-screen.ensures.narrow c.rect-screen.ensures.low c.intersect-part.ensures.fields c.if-is_empty.ensures in
    omega (arith, small.width)

pub overflow_cast-result-else-is_empty-3 : goal.overflow_cast-result-else-is_empty-3
overflow_cast-result-else-is_empty-3 g c =
    let small = IsSmall-part c.rect-screen.result c.args.rect c.intersect-part.result c.rect-screen.ensures.narrow c.rect-screen.ensures.low c.intersect-part.ensures.fields c.if-is_empty.ensures in
    omega (arith, small.height)

pub returns-then-is_empty : goal.returns-then-is_empty
returns-then-is_empty g c =
    rw (sym c.self.view_is) (translated-none c.rect-screen.result c.self.inside.surface.rect c.args.rect c.intersect-part.result c.rect-screen.ensures.value c.intersect-part.ensures.fields c.if-is_empty.ensures)

pub returns-else-is_empty : goal.returns-else-is_empty
returns-else-is_empty g c =
    let fx : FitsSigned w64 c.rect-screen.result.x = omega (arith, places, c.rect-screen.ensures.in_range) in
    let fy : FitsSigned w64 c.rect-screen.result.y = omega (arith, places, c.rect-screen.ensures.in_range) in
    let px : FitsSigned w64 c.intersect-part.result.x = omega (arith, places, c.intersect-part.ensures.in_range) in
    let py : FitsSigned w64 c.intersect-part.result.y = omega (arith, places, c.intersect-part.ensures.in_range) in
    let small = IsSmall-part c.rect-screen.result c.args.rect c.intersect-part.result c.rect-screen.ensures.narrow c.rect-screen.ensures.low c.intersect-part.ensures.fields c.if-is_empty.ensures in
    let a = simp to_z-of_z at c.abs_diff.ensures in
    let b = simp to_z-of_z at c.abs_diff-else-is_empty.ensures in
    rw (sym c.self.view_is) (translated-some c.rect-screen.result c.self.inside.surface.rect c.args.rect c.intersect-part.result _ _ c.rect-screen.ensures.value c.intersect-part.ensures.fields c.if-is_empty.ensures (omega (arith, places, a, small.left)) (omega (arith, places, b, small.top)))
