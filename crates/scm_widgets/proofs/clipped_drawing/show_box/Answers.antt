use Rattle.std.proofs.Common.{rules, ◌∙◌, sym, FitsSigned, w64}
use Rattle.std.proofs.lemmas.Int.{to_z-of_z}
use Rattle.scm_render.proofs.PictureLemmas.{PictureInRange-part}
use Rattle.scm_render.proofs.DrawLemmas.{span_in_range}
use Rattle.scm_widgets.specs.Pictures.{box_picture}
use Rattle.scm_widgets.proofs.BoxLemmas.{box-width}
use Rattle.scm_widgets.proofs.HiddenLemmas.{box-hidden, counted-shown, counted-hidden}
use Rattle.scm_widgets.proofs.clipped_drawing.show_box.Goals as goal

pub note_box-requires : goal.note_box-requires
unfolding box_picture
note_box-requires c =
    let fx : FitsSigned w64 c.args.x = c.ranges.x in
    let fy : FitsSigned w64 c.args.y = c.ranges.y in
    let test = simp to_z-of_z at c.is_on_screen.ensures.test in
    let rows = c.is_on_screen.ensures.rows in
    rw c.row_of.ensures (simp to_z-of_z (rw (box-width c.args.tristate_box.now) at (span_in_range _ _ _ _ (PictureInRange-part _ _ c.requires))))

pub returns-in_ok-note_box : goal.returns-in_ok-note_box
returns-in_ok-note_box c =
    let fx : FitsSigned w64 c.args.x = c.ranges.x in
    let fy : FitsSigned w64 c.args.y = c.ranges.y in
    let test = simp to_z-of_z at c.is_on_screen.ensures.test in
    let rows = c.is_on_screen.ensures.rows in
    let drawn = rw c.row_of.ensures at c.in_ok-note_box.ensures.ok in
    record {
      ok = simp to_z-of_z at drawn ∙ box-hidden c.args.viewport.now.canvas c.args.tristate_box.now c.args.x c.args.y rows (sym test ∙ c.if-is_on_screen.false);
      counts = (counted-hidden _ _ _ _ _ (sym test ∙ c.if-is_on_screen.false) c.note_box.ensures.counts);
      rect = search rules;
      err = search rules;
    }

pub returns-in_ok-draw_part : goal.returns-in_ok-draw_part
returns-in_ok-draw_part c =
    let fx : FitsSigned w64 c.args.x = c.ranges.x in
    let fy : FitsSigned w64 c.args.y = c.ranges.y in
    let test = simp to_z-of_z at c.is_on_screen.ensures.test in
    let rows = c.is_on_screen.ensures.rows in
    record {
      ok = search rules;
      counts = (counted-shown _ _ _ _ _ (sym test ∙ c.if-is_on_screen.true) c.in_ok-draw_part.ensures.counts);
      rect = search rules;
      err = search rules;
    }
