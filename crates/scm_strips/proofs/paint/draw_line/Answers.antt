use Rattle.scm_document.specs.Rows.{line_texts}
use Rattle.scm_document.specs.Texts.{sign_text}
use Rattle.scm_widgets.specs.Texts.{box_text}
use Rattle.scm_strips.specs.Shows.{put_in, say_in}
use Rattle.scm_strips.proofs.RowLemmas.{drawn-two, on-ok}
use Rattle.scm_strips.proofs.paint.draw_line.Goals as goal

pub returns-clause-ok : goal.returns-clause-ok
returns-clause-ok c =
    let a = c.args.area in
    let end = c.end_column-high.ensures.value in
    on-ok c.say_line.result
    (λ p. drawn-two c.args.row
    (put_in a 4 (box_text c.args.toggle_box.now))
    (say_in a 8 (line_texts (sign_text c.args.change_type) c.args.line.now))
    _ _ _ c.requires.row
    (rw (end, c.text.ensures) at c.in_ok-draw_piece.ensures.ok)
    (rw (end, c.sign_text.ensures) at p))
    c.say_line.ensures.ok
