use Rattle.std.proofs.Common.{◌∷◌, []}
use Rattle.scm_widgets.specs.Texts.{box_text}
use Rattle.scm_strips.specs.Shows.{put_in, say_in}
use Rattle.scm_strips.proofs.RowLemmas.{drawn-two, on-ok}
use Rattle.scm_strips.proofs.paint.draw_mark.Goals as goal

pub returns-clause-ok : goal.returns-clause-ok
returns-clause-ok c =
    let a = c.args.area in
    let end = c.end_column-high.ensures.value in
    on-ok c.say.result
    (λ p. drawn-two c.args.row (put_in a 2 (box_text c.args.toggle_box.now)) (say_in a 6 (c.args.text.now ∷ [])) _ _ _ c.requires.row
    (rw (end, c.text.ensures) at c.in_ok-draw_piece.ensures.ok) (rw end at p))
    c.say.ensures.ok
