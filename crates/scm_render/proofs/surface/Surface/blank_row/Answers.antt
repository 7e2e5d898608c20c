use Rattle.std.proofs.Common.{arith, ◌∙◌, sym, ap, refl, replicate, FitsSigned, w64}
use Rattle.std.specs.Prelude.{◌-ℤ◌}
use Rattle.std.proofs.lemmas.Int.{to_z-of_z}
use Rattle.scm_cells.specs.Rect.{end_x_of}
use Rattle.scm_cells.proofs.RectLemmas.{places}
use Rattle.scm_render.proofs.DrawLemmas.{put-whole}
use Rattle.scm_render.proofs.surface.Surface.blank_row.Goals as goal

pub put_blank-requires-clause-row : goal.put_blank-requires-clause-row
put_blank-requires-clause-row c =
    let fy : FitsSigned w64 c.args.y = c.ranges.y in
    let fv : FitsSigned w64 c.self.inside.rect.y = omega (arith, places, c.self.invariant.rect.y) in
    let gap = simp to_z-of_z at c.abs_diff-row.ensures in
    let top = rw (sym c.self.view_is) at c.requires.top in
    let bottom = rw (sym c.self.view_is) at c.requires.bottom in
    omega (arith, places, gap, top, bottom, c.self.invariant.height)

pub returns : goal.returns
returns c =
    let v = c.self.inside.rect in
    let fx : FitsSigned w64 c.args.rect.x = omega (arith, places) in
    let fy : FitsSigned w64 c.args.y = c.ranges.y in
    let fs : FitsSigned w64 v.x = omega (arith, places, c.self.invariant.rect.x) in
    let ft : FitsSigned w64 v.y = omega (arith, places, c.self.invariant.rect.y) in
    let fe : FitsSigned w64 (end_x_of c.args.rect) = omega (arith, places) in
    let fd : FitsSigned w64 (c.args.rect.x -ℤ v.x) = omega (arith, places, c.self.invariant.rect.x) in
    let gap = simp to_z-of_z at c.abs_diff-row.ensures in
    let top = rw (sym c.self.view_is) at c.requires.top in
    let bottom = rw (sym c.self.view_is) at c.requires.bottom in
    let low = rw (sym c.self.view_is) at (simp to_z-of_z at c.column-low.ensures.value) in
    let high = rw (sym c.self.view_is) at (simp to_z-of_z at (rw c.end_x.ensures at c.column-high.ensures.value)) in
    let there = simp to_z-of_z at c.put_blank.ensures in
    rw (sym c.self.view_is)
    (ap (λ g. record { rect = v; rows = g.rows; counts = g.counts }) there
    ∙ put-whole v c.args.rect c.self.inside.grid.rows c.args.rect.x c.args.y (replicate c.args.rect.width 32) c.abs_diff-row.result (c.args.rect.x -ℤ v.x) c.column-low.result c.column-high.result top gap
    (omega (arith, places, gap, top, bottom, c.self.invariant.height)) refl low high)
