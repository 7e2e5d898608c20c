use Rattle.std.proofs.Common.{rules, ◌∙◌, sym, FitsSigned, w64}
use Rattle.std.proofs.lemmas.Int.{to_z-of_z}
use Rattle.scm_render.proofs.DrawLemmas.{span_in_range}
use Rattle.scm_widgets.specs.declared.ids.ComponentId.{ComponentId}
use Rattle.scm_widgets.proofs.HiddenLemmas.{span-hidden, counted-shown, counted-hidden}
use Rattle.scm_widgets.proofs.clipped_drawing.show_span.Goals as goal

pub cover_rect-requires : goal.cover_rect-requires
cover_rect-requires c =
    let fx : FitsSigned w64 c.args.x = c.ranges.x in
    let fy : FitsSigned w64 c.args.y = c.ranges.y in
    let test = simp to_z-of_z at c.is_on_screen.ensures.test in
    let rows = c.is_on_screen.ensures.rows in
    rw c.row_of.ensures (rw c.text_width.ensures.value (simp to_z-of_z (span_in_range {K = ComponentId} _ _ _ _ c.requires)))

pub returns-else-is_on_screen : goal.returns-else-is_on_screen
returns-else-is_on_screen c =
    let fx : FitsSigned w64 c.args.x = c.ranges.x in
    let fy : FitsSigned w64 c.args.y = c.ranges.y in
    let test = simp to_z-of_z at c.is_on_screen.ensures.test in
    let rows = c.is_on_screen.ensures.rows in
    let drawn = rw c.text_width.ensures.value at (rw c.row_of.ensures at c.cover_rect.ensures.new) in
    record {
      ok = simp to_z-of_z at drawn ∙ span-hidden c.args.viewport.now.canvas c.args.x c.args.y c.args.text.now rows (sym test ∙ c.if-is_on_screen.false);
      counts = (counted-hidden _ _ _ _ _ (sym test ∙ c.if-is_on_screen.false) c.cover_rect.ensures.counts);
      rect = search rules;
      err = search rules;
    }

pub returns-in_ok-draw_span : goal.returns-in_ok-draw_span
returns-in_ok-draw_span c =
    let fx : FitsSigned w64 c.args.x = c.ranges.x in
    let fy : FitsSigned w64 c.args.y = c.ranges.y in
    let test = simp to_z-of_z at c.is_on_screen.ensures.test in
    let rows = c.is_on_screen.ensures.rows in
    record {
      ok = search rules;
      counts = (counted-shown _ _ _ _ _ (sym test ∙ c.if-is_on_screen.true) c.in_ok-draw_span.ensures.draws.counts);
      rect = search rules;
      err = search rules;
    }
