use Rattle.std.proofs.Common.{rules, ◌∙◌, ◌∷◌, ℕ, List, sym, ap, subst, FitsSigned, w64}
use Rattle.std.proofs.lemmas.Int.{to_z-of_z}
use Rattle.scm_cells.specs.Replaced.{line_pieces}
use Rattle.scm_document.specs.Rows.{line_texts}
use Rattle.scm_render.specs.Canvas.{with_picture}
use Rattle.scm_render.specs.Drawing.{text_picture}
use Rattle.scm_render.specs.Picture.{PictureInRange}
use Rattle.scm_widgets.specs.declared.ids.ComponentId.{ComponentId}
use Rattle.scm_widgets.proofs.HiddenLemmas.{counted-hidden, counted-shown}
use Rattle.scm_widgets.proofs.CoverLemmas.{front-width, cover-in-range, cover-hidden}
use Rattle.scm_document.proofs.section_line_view.draw_line_texts.Goals as goal

pub cover_line-requires : goal.cover_line-requires
cover_line-requires c =
    let fx : FitsSigned w64 c.args.x = c.ranges.x in
    let fy : FitsSigned w64 c.args.y = c.ranges.y in
    let width = front-width c.text_width.result c.args.front.now (line_pieces c.args.line.now) c.text_width.ensures.value in
    simp to_z-of_z (cover-in-range _ _ _ _ (line_texts c.args.front.now c.args.line.now) width c.requires)

pub returns-then-not-is_on_screen : goal.returns-then-not-is_on_screen
returns-then-not-is_on_screen c =
    let fx : FitsSigned w64 c.args.x = c.ranges.x in
    let fy : FitsSigned w64 c.args.y = c.ranges.y in
    let test = simp to_z-of_z at c.is_on_screen.ensures.test in
    let rows = c.is_on_screen.ensures.rows in
    let width = front-width c.text_width.result c.args.front.now (line_pieces c.args.line.now) c.text_width.ensures.value in
    record {
      ok = simp to_z-of_z at c.cover_line.ensures.new ∙ cover-hidden c.args.viewport.now.canvas c.args.x c.args.y _ (line_texts c.args.front.now c.args.line.now) width rows (sym test ∙ c.if-not-is_on_screen.true);
      counts = counted-hidden _ _ _ _ _ (sym test ∙ c.if-not-is_on_screen.true) c.cover_line.ensures.counts;
      rect = search rules;
      err = search rules;
    }

pub draw_text-requires : goal.draw_text-requires
draw_text-requires c =
    let fx : FitsSigned w64 c.args.x = c.ranges.x in
    let fy : FitsSigned w64 c.args.y = c.ranges.y in
    simp to_z-of_z (subst (λ (ps : List (List ℕ)). PictureInRange {K = ComponentId} (text_picture c.args.viewport.now.canvas.sight c.args.x c.args.y (c.args.front.now ∷ ps))) c.in-Some.ensures c.requires)

pub returns-in_ok-draw_text-in-Some : goal.returns-in_ok-draw_text-in-Some
returns-in_ok-draw_text-in-Some c =
    let fx : FitsSigned w64 c.args.x = c.ranges.x in
    let fy : FitsSigned w64 c.args.y = c.ranges.y in
    let test = simp to_z-of_z at c.is_on_screen.ensures.test in
    let canvas = c.args.viewport.now.canvas in
    record {
      ok = simp to_z-of_z at c.in_ok-draw_text-in-Some.ensures.draws.ok
          ∙ ap (λ (ps : List (List ℕ)). with_picture canvas (text_picture canvas.sight c.args.x c.args.y (c.args.front.now ∷ ps))) (sym c.in-Some.ensures);
      counts = counted-shown _ _ _ _ _ (sym test ∙ c.if-not-is_on_screen.false) c.in_ok-draw_text-in-Some.ensures.draws.counts;
      rect = search rules;
      err = search rules;
    }
