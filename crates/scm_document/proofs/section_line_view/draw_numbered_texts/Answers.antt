use Rattle.std.proofs.Common.{rules, ◌∙◌, sym}
use Rattle.std.proofs.lemmas.Int.{to_z-of_z}
use Rattle.scm_cells.specs.Replaced.{line_pieces}
use Rattle.scm_document.specs.Rows.{line_texts}
use Rattle.scm_document.specs.Texts.{number_text}
use Rattle.scm_widgets.proofs.HiddenLemmas.{counted-hidden}
use Rattle.scm_widgets.proofs.CoverLemmas.{front-width, cover-in-range, cover-hidden}
use Rattle.scm_document.proofs.section_line_view.draw_numbered_texts.Goals as goal

pub draw_line_texts-requires : goal.draw_line_texts-requires
draw_line_texts-requires c =
    rw (c.as_str.ensures.value, c.in_ok-text.ensures.ok) (simp (to_z-of_z, c.ranges.x, c.ranges.y) c.requires)

pub cover_line-requires : goal.cover_line-requires
cover_line-requires c =
    let width = front-width c.number_width.result (number_text c.args.number) (line_pieces c.args.line.now) c.number_width.ensures in
    simp (to_z-of_z, c.ranges.x, c.ranges.y) (cover-in-range _ _ _ _ (line_texts (number_text c.args.number) c.args.line.now) width c.requires)

pub returns-in_ok-text : goal.returns-in_ok-text
returns-in_ok-text c = rw (c.as_str.ensures.value, c.in_ok-text.ensures.ok) at (simp (to_z-of_z, c.ranges.x, c.ranges.y) at c.draw_line_texts.ensures)

pub returns-else-is_on_screen : goal.returns-else-is_on_screen
returns-else-is_on_screen c =
    let test = simp (to_z-of_z, c.ranges.x, c.ranges.y) at c.is_on_screen.ensures.test in
    let width = front-width c.number_width.result (number_text c.args.number) (line_pieces c.args.line.now) c.number_width.ensures in
    record {
      ok =
          simp (to_z-of_z, c.ranges.x, c.ranges.y) at c.cover_line.ensures.new
          ∙ cover-hidden c.args.viewport.now.canvas c.args.x c.args.y _ (line_texts (number_text c.args.number) c.args.line.now) width c.is_on_screen.ensures.rows (sym test ∙ c.if-is_on_screen.false);
      counts = counted-hidden _ _ _ _ _ (sym test ∙ c.if-is_on_screen.false) c.cover_line.ensures.counts;
      rect = search rules;
      err = search rules;
    }
