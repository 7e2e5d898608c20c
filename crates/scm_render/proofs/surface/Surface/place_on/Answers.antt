use Rattle.std.proofs.Common.{arith, sym, FitsSigned, w64}
use Rattle.std.proofs.lemmas.Int.{to_z-of_z}
use Rattle.scm_cells.specs.Rect.{end_x_of}
use Rattle.scm_cells.proofs.RectLemmas.{places}
use Rattle.scm_render.proofs.surface.Surface.place_on.Goals as goal

pub returns : goal.returns
returns c =
    let v = c.self.inside.rect in
    let fy : FitsSigned w64 c.args.y = c.ranges.y in
    let ft : FitsSigned w64 v.y = omega (arith, places, c.self.invariant.rect.y) in
    let fl : FitsSigned w64 c.args.within.x = omega (arith, places) in
    let fe : FitsSigned w64 (end_x_of c.args.within) = omega (arith, places) in
    record {
      shown = c.requires.shown;
      top = c.requires.top;
      bottom = c.requires.bottom;
      row = rw (sym c.self.view_is) (simp to_z-of_z at c.abs_diff.ensures);
      low = simp to_z-of_z at c.column.ensures.value;
      high = simp to_z-of_z at (rw c.end_x.ensures at c.column-2.ensures.value);
    }
