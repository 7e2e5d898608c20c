use Rattle.std.proofs.Common.{rules, FitsSigned, w64}
use Rattle.std.proofs.lemmas.Int.{to_z-of_z}
use Rattle.scm_widgets.specs.Pictures.{box_picture}
use Rattle.scm_widgets.proofs.tristate_box.TristateBoxComponent.draw.Goals as goal

pub draw_span-requires : goal.draw_span-requires
unfolding box_picture
draw_span-requires g c =
    let fx : FitsSigned w64 c.args.x = c.ranges.x in
    let fy : FitsSigned w64 c.args.y = c.ranges.y in
    rw c.text.ensures (simp to_z-of_z c.requires)

pub returns : goal.returns
unfolding box_picture
returns g c =
    let fx : FitsSigned w64 c.args.x = c.ranges.x in
    let fy : FitsSigned w64 c.args.y = c.ranges.y in
    record {
      ok = rw c.text.ensures at (simp to_z-of_z at c.in_ok-draw_span.ensures.draws.ok);
      counts = search rules;
      rect = search rules;
      err = search rules;
    }
