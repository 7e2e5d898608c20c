use Rattle.std.proofs.Common.{◌≡◌, ◌+◌, ◌∷◌, [], arith}
use Rattle.std.specs.Prelude.{pos}
use Rattle.scm_cells.specs.Row.{put}
use Rattle.scm_render.specs.Rows.{say_texts}
use Rattle.scm_widgets.specs.Blanks.{blanked}
use Rattle.scm_widgets.specs.Texts.{box_text}
use Rattle.scm_strips.specs.Shows.{end_column, fold_column, title_column}
use Rattle.scm_strips.proofs.RowLemmas.{drawn-four, on-ok}
use Rattle.scm_strips.proofs.headings.draw_heading.Goals as goal

pub returns-clause-ok : goal.returns-clause-ok
returns-clause-ok c =
    let a = c.args.area in
    let low = a.left + c.args.indent in
    let end = c.end_column-end.ensures.value in
    let high = c.saturating_sub.ensures in
    let at : a.left + c.args.indent + 4 ≡ a.left + (c.args.indent + 4) = omega arith in
    on-ok c.say.result
    (λ p. drawn-four c.args.row
    (λ r. put r (fold_column a) (box_text c.args.expand_box.now) a.left (end_column a))
    (blanked low (title_column a))
    (λ r. put r (pos low) (box_text c.args.toggle_box.now) low (title_column a))
    (λ r. say_texts r (pos (a.left + (c.args.indent + 4))) (c.args.title.now ∷ []) low (title_column a))
    _ _ _ _ _ c.requires.row
    (rw (end, c.text.ensures) at c.in_ok-draw_fold.ensures.ok)
    (rw high at c.draw_blank.ensures.new)
    (rw (high, c.text-2.ensures) at c.in_ok-draw_piece.ensures.ok)
    (rw (at, high) at p))
    c.say.ensures.ok
