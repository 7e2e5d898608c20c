use Rattle.std.proofs.Common.{rules, ◌∙◌, sym, FitsSigned, w64}
use Rattle.std.proofs.lemmas.Int.{to_z-of_z}
use Rattle.scm_cells.specs.Spans.{span_texts}
use Rattle.scm_render.proofs.DrawLemmas.{line_in_range, text_picture-line}
use Rattle.scm_widgets.specs.declared.ids.ComponentId.{ComponentId}
use Rattle.scm_widgets.proofs.HiddenLemmas.{counted-shown, counted-hidden}
use Rattle.scm_widgets.proofs.CoverLemmas.{narrow, cover-in-range, cover-hidden}
use Rattle.scm_widgets.proofs.clipped_drawing.show_text.Goals as goal

pub spans_width-requires : goal.spans_width-requires
spans_width-requires c = narrow _ _ _ (line_in_range {K = ComponentId} _ _ _ _ (text_picture-line _ _ _ _ c.requires))

pub cover_texts-requires : goal.cover_texts-requires
cover_texts-requires c =
    let fx : FitsSigned w64 c.args.x = c.ranges.x in
    let fy : FitsSigned w64 c.args.y = c.ranges.y in
    simp to_z-of_z (cover-in-range _ _ _ _ (span_texts c.args.spans.now) c.spans_width.ensures c.requires)

pub returns-else-is_on_screen : goal.returns-else-is_on_screen
returns-else-is_on_screen c =
    let fx : FitsSigned w64 c.args.x = c.ranges.x in
    let fy : FitsSigned w64 c.args.y = c.ranges.y in
    let test = simp to_z-of_z at c.is_on_screen.ensures.test in
    let rows = c.is_on_screen.ensures.rows in
    record {
      ok = simp to_z-of_z at c.cover_texts.ensures.new ∙ cover-hidden c.args.viewport.now.canvas c.args.x c.args.y _ (span_texts c.args.spans.now) c.spans_width.ensures rows (sym test ∙ c.if-is_on_screen.false);
      counts = (counted-hidden _ _ _ _ _ (sym test ∙ c.if-is_on_screen.false) c.cover_texts.ensures.counts);
      rect = search rules;
      err = search rules;
    }

pub returns-in_ok-draw_text : goal.returns-in_ok-draw_text
returns-in_ok-draw_text c =
    let fx : FitsSigned w64 c.args.x = c.ranges.x in
    let fy : FitsSigned w64 c.args.y = c.ranges.y in
    let test = simp to_z-of_z at c.is_on_screen.ensures.test in
    let rows = c.is_on_screen.ensures.rows in
    record {
      ok = search rules;
      counts = (counted-shown _ _ _ _ _ (sym test ∙ c.if-is_on_screen.true) c.in_ok-draw_text.ensures.draws.counts);
      rect = search rules;
      err = search rules;
    }
