use Rattle.std.proofs.Common.{FitsSigned, w64}
use Rattle.std.proofs.lemmas.Int.{to_z-of_z}
use Rattle.scm_widgets.proofs.clipped_drawing.show_blank_rest.Goals as goal

pub show_blank-requires : goal.show_blank-requires
show_blank-requires c =
    let fx : FitsSigned w64 c.args.x = c.ranges.x in
    let fy : FitsSigned w64 c.args.y = c.ranges.y in
    simp (to_z-of_z, c.to_end-width.ensures.columns) c.requires

pub returns : goal.returns
returns c =
    let fx : FitsSigned w64 c.args.x = c.ranges.x in
    let fy : FitsSigned w64 c.args.y = c.ranges.y in
    simp to_z-of_z at (rw c.to_end-width.ensures.columns at c.show_blank.ensures)
