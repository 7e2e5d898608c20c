use Rattle.std.proofs.Common.{rules, ◌∙◌, sym, FitsSigned, w64}
use Rattle.std.proofs.lemmas.Int.{to_z-of_z}
use Rattle.scm_render.proofs.DrawLemmas.{blank_in_range}
use Rattle.scm_widgets.specs.declared.ids.ComponentId.{ComponentId}
use Rattle.scm_widgets.proofs.HiddenLemmas.{blank-hidden, counted-shown, counted-hidden}
use Rattle.scm_widgets.proofs.clipped_drawing.show_blank.Goals as goal

pub draw_blank-requires : goal.draw_blank-requires
draw_blank-requires c =
    let fx : FitsSigned w64 c.args.x = c.ranges.x in
    let fy : FitsSigned w64 c.args.y = c.ranges.y in
    let test = simp to_z-of_z at c.is_on_screen.ensures.test in
    let rows = c.is_on_screen.ensures.rows in
    rw c.row_of.ensures (simp to_z-of_z c.requires)

pub cover_rect-requires : goal.cover_rect-requires
cover_rect-requires c =
    let fx : FitsSigned w64 c.args.x = c.ranges.x in
    let fy : FitsSigned w64 c.args.y = c.ranges.y in
    let test = simp to_z-of_z at c.is_on_screen.ensures.test in
    let rows = c.is_on_screen.ensures.rows in
    rw c.row_of-else-is_on_screen.ensures (simp to_z-of_z (blank_in_range {K = ComponentId} _ _ c.requires))

pub returns-in_ok-draw_blank : goal.returns-in_ok-draw_blank
returns-in_ok-draw_blank c =
    let fx : FitsSigned w64 c.args.x = c.ranges.x in
    let fy : FitsSigned w64 c.args.y = c.ranges.y in
    let test = simp to_z-of_z at c.is_on_screen.ensures.test in
    let rows = c.is_on_screen.ensures.rows in
    record {
      ok = simp to_z-of_z at (rw c.row_of.ensures at c.in_ok-draw_blank.ensures.draws.ok);
      counts = (counted-shown _ _ _ _ _ (sym test ∙ c.if-is_on_screen.true) c.in_ok-draw_blank.ensures.draws.counts);
      rect = search rules;
      err = search rules;
    }

pub returns-else-is_on_screen : goal.returns-else-is_on_screen
returns-else-is_on_screen c =
    let fx : FitsSigned w64 c.args.x = c.ranges.x in
    let fy : FitsSigned w64 c.args.y = c.ranges.y in
    let test = simp to_z-of_z at c.is_on_screen.ensures.test in
    let rows = c.is_on_screen.ensures.rows in
    let drawn = rw c.row_of-else-is_on_screen.ensures at c.cover_rect.ensures.new in
    record {
      ok = simp to_z-of_z at drawn ∙ blank-hidden c.args.viewport.now.canvas c.args.x c.args.y c.args.width rows (sym test ∙ c.if-is_on_screen.false);
      counts = (counted-hidden _ _ _ _ _ (sym test ∙ c.if-is_on_screen.false) c.cover_rect.ensures.counts);
      rect = search rules;
      err = search rules;
    }
